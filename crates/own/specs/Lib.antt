pub mod Own
pub mod Inner
