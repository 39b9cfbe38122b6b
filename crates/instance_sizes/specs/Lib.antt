pub mod Counts
pub mod Laws
pub mod N10
pub mod Contributing
pub mod Sizes
pub mod private
