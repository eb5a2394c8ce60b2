pub mod Runs
pub mod Joined
pub mod Read
pub mod Same
