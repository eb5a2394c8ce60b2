pub mod Love
pub mod Norms
