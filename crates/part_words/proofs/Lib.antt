pub mod Filling
pub mod SetWords
pub mod Wholes
