pub mod Steps
pub mod Bounds
pub mod ExtentCode
pub mod Growing
pub mod Testing
pub mod WholeQuadric
