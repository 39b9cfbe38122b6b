pub mod Groups
pub mod Laws
pub mod Units
pub mod private
