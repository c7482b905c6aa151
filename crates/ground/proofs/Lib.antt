pub mod Parts
pub mod Peaks
pub mod Looks
pub mod Searching
pub mod Ranges
pub mod Depths
