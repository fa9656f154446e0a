pub mod Filed
pub mod Written
