mod Asks
mod Beginning
mod Blocks
mod Lists
mod Taken
mod There
mod Ticks
pub mod Telling
