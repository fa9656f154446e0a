pub mod Walks
pub mod Verdicts
pub mod Promises
pub mod Around
pub mod Relations
pub mod Judging
pub mod Counting
pub mod Outcomes
