pub mod Potential
pub mod Inner
