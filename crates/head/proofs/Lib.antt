pub mod Squares
pub mod Places
pub mod Outcomes
