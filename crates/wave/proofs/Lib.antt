pub mod Turn
pub mod Size
pub mod Cases
