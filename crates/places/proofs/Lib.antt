pub mod Sizes
pub mod Same
pub mod Zonal
