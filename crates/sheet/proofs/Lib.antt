pub mod Signs
pub mod Offsets
pub mod Flat
pub mod Twins
pub mod Acceptance
pub mod Table
