pub mod Transform
pub mod Planes
pub mod Errors
