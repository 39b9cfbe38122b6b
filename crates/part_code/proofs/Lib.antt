pub mod Growing
pub mod Refusing
pub mod Runs
pub mod Sized
pub mod Sizes
pub mod Solved
pub mod Whole
