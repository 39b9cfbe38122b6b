pub mod Actions
pub mod Calls
pub mod Codes
pub mod Layers
pub mod Stages
pub mod Statuses
pub mod Told
