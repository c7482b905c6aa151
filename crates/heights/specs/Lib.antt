pub mod Lines
pub mod Coefficients
pub mod Reading
