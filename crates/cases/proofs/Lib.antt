pub mod Listing
pub mod Ocean
pub mod Proved
