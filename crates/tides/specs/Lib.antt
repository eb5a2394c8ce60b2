pub mod Tides
pub mod Inner
