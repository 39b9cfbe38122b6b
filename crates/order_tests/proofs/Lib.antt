pub mod Grids
pub mod Tame
