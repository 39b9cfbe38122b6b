pub mod Grouping
pub mod Sharing
pub mod Took
