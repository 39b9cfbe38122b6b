pub mod Absent
pub mod Answering
pub mod Deciding
pub mod Filtered
pub mod Groups
pub mod Laws
pub mod Naming
