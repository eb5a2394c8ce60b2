pub mod Lists
pub mod Lowering
pub mod Sizes
pub mod Factors
