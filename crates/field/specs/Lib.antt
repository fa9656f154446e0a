pub mod Meaning
pub mod Layers
pub mod Bounds
pub mod Joining
pub mod Opposing
