pub mod Words
pub mod Lines
pub mod Known
pub mod Constants
pub mod Head
