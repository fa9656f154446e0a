pub mod Standings
pub mod Sent
pub mod Keeping
pub mod Lists
pub mod Reaching
pub mod WorkedCalls
