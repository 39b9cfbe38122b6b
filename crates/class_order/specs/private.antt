pub mod Contents
pub mod Depths
pub mod Ranks
