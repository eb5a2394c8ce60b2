pub mod Numbers
pub mod Bytes
pub mod Decimals
pub mod Lines
pub mod Texts
pub mod Header
pub mod Data
pub mod Return
