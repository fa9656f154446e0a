pub mod Lines
pub mod Filing
