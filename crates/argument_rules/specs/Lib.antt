pub mod N5
pub mod Paths
pub mod Targets
