pub mod Counting
pub mod Placing
pub mod Ending
pub mod Preparing
