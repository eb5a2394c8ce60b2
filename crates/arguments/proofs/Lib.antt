pub mod Modulo
pub mod Moved
