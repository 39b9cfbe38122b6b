pub mod Levels
pub mod Ordering
pub mod Rests
pub mod Same
pub mod Staged
