pub mod Listed
pub mod Nearest
pub mod Sum
