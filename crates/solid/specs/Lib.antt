pub mod Solid
pub mod Inner
