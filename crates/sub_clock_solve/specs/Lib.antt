pub mod Solving
pub mod Standing
pub mod Grain
pub mod Laws
pub mod private
