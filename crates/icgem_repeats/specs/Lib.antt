pub mod Inner
pub mod Place
