pub mod Classified
pub mod Laws
pub mod private
