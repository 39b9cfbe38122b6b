pub mod Weights
pub mod private
