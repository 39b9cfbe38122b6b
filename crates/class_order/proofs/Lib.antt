pub mod Lists
pub mod Ranking
pub mod Ordering
pub mod Depthing
pub mod Filling
pub mod Answering
