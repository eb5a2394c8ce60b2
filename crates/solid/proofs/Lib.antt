pub mod Plus
pub mod Sizes
