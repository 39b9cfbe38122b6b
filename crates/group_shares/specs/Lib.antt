pub mod Dividing
pub mod Laws
