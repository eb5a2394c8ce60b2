pub mod Bands
pub mod Inner
