pub mod Puts
pub mod Decimals
pub mod Numbers
pub mod Columns
pub mod Cases
