pub mod N3
pub mod Scopes
pub mod Written
pub mod private
