pub mod Halving
pub mod Promise
pub mod Relation
pub mod Judging
pub mod Outcome
