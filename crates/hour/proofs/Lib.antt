pub mod Kept
pub mod Reached
