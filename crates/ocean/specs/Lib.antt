pub mod Ocean
pub mod Inner
