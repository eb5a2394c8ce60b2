pub mod Words
pub mod Formed
pub mod Kept
pub mod Pass
