pub mod Inner
pub mod Read
