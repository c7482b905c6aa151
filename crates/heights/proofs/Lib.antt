pub mod Strides
pub mod Sides
pub mod Turns
pub mod Settling
pub mod Walks
pub mod Digits
