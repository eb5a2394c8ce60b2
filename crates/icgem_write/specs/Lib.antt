pub mod Written
pub mod Inner
pub mod Outcome
