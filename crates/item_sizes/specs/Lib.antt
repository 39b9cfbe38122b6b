pub mod Items
pub mod Measures
