pub mod Belows
pub mod Dots
pub mod Tabled
