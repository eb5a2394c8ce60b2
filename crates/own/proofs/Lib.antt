pub mod Records
pub mod Table
pub mod Totals
