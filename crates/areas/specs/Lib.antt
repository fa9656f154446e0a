pub mod Table
pub mod Fields
pub mod Forming
pub mod Parts
pub mod OverLaws
pub mod Uniting
