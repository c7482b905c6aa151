pub mod Halving
pub mod Levels
pub mod Planes
pub mod Errors
pub mod Cells
