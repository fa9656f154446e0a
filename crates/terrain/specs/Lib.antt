pub mod Rows
pub mod Fitting
pub mod Moves
