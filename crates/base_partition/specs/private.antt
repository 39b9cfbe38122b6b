pub mod First
pub mod Numbered
pub mod Members
pub mod Marks
pub mod Pairs
pub mod Placed
pub mod Sources
pub mod Grouped
