pub mod Given
pub mod OneResult
