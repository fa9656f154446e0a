mod Scaling
mod Printing
mod RowSteps
mod Whole
pub mod WorkedCases
