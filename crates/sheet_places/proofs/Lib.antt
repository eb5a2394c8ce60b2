pub mod Joining
pub mod Zero
pub mod Onward
