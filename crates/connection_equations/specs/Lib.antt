pub mod Connections
pub mod Sets
