pub mod Ranges
pub mod Places
pub mod Making
