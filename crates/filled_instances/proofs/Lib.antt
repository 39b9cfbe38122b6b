pub mod Empty
pub mod Counting
