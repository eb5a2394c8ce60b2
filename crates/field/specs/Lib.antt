pub mod Field
pub mod Added
pub mod Inner
