pub mod Putting
pub mod Rowing
pub mod Ending
mod Instants
pub mod Prepared
