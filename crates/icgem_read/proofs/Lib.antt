pub mod Refusals
pub mod Sound
pub mod Lines
pub mod File
pub mod Calls
pub mod Copies
pub mod OneResult
