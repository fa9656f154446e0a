pub mod Lines
pub mod Files
pub mod Errors
pub mod Rows
pub mod Outputs
