pub mod Header
pub mod Data
pub mod File
