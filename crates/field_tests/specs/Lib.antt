pub mod Level
pub mod Side
