pub mod Hour
pub mod Inner
