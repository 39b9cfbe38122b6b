pub mod Clocks
pub mod Reaching
pub mod Tables
