pub mod Demands
pub mod InTurn
