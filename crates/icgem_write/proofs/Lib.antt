pub mod Lines
pub mod Lengths
pub mod Outcome
pub mod OneResult
