pub mod Counted
pub mod Lows
