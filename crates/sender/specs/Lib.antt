pub mod Refusals
pub mod Asked
pub mod Sending
pub mod Frames
