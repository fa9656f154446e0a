pub mod Greatest
pub mod Corners
pub mod Coordinates
pub mod Sizes
pub mod Grounds
pub mod Files
pub mod Lattices
pub mod Folds
