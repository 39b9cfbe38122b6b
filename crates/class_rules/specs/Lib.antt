pub mod N8
pub mod N9
