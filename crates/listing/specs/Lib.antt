pub mod Positions
pub mod Rows
pub mod Ground
pub mod Listing
pub mod Worked
