pub mod Doodson
