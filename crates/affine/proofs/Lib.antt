pub mod Ends
pub mod Holding
pub mod Choosing
pub mod Results
pub mod Fitting
