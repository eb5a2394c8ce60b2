pub mod Counts
pub mod Terms
pub mod Sizes
