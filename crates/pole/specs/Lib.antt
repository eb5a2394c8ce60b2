pub mod Fractions
pub mod Pole
