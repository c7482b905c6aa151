pub mod Tells
pub mod Frames
pub mod Peaks
