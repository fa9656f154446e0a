pub mod Laws
pub mod Ring
pub mod Order
pub mod Absolute
pub mod Division
pub mod Extremes
pub mod Machine
pub mod Bounding
