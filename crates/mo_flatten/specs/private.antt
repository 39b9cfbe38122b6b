pub mod Ends
pub mod Models
pub mod Named
pub mod Stages
