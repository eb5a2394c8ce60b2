pub mod Written
pub mod Lines
pub mod Pole
pub mod Sheets
pub mod There
pub mod Proved
