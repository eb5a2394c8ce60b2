pub mod Near
pub mod Steps
pub mod Bound
pub mod Sums
pub mod Values
