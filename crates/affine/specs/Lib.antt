pub mod Forms
pub mod Holding
pub mod Fits
pub mod Worked
