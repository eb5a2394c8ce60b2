pub mod Solid
pub mod Five
pub mod OceanTide
pub mod OwnLines
