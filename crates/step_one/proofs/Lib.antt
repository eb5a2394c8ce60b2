pub mod Each
pub mod Permanent
pub mod Places
pub mod Counted
pub mod Table
pub mod Worked
