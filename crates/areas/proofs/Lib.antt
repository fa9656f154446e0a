pub mod Tables
pub mod Uniting
pub mod Fitting
pub mod Least
