pub mod Content
pub mod Laws
pub mod N11
pub mod N4
pub mod Orders
pub mod Places
pub mod private
