pub mod Halves
pub mod Fields
pub mod Edge
pub mod Cases
