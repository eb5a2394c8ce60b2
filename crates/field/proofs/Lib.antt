pub mod Entries
pub mod Table
pub mod Accepted
pub mod Added
