mod Clocked
pub mod Halting
mod Layered
pub mod Models
mod Placed
mod Printing
mod Short
mod Sources
mod Spots
mod Tabled
mod Texts
