pub mod Surface
pub mod Terrain
pub mod Meaning
