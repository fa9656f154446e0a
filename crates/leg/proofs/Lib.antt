pub mod Tests
pub mod Places
pub mod Halving
pub mod Shaping
