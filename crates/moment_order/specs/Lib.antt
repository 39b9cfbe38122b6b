pub mod Laws
pub mod Stages
pub mod private
