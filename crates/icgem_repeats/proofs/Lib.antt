pub mod Numbers
pub mod Lines
pub mod Counts
pub mod Merged
pub mod Halves
pub mod Front
pub mod Twice
