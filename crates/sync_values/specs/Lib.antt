pub mod Arithmetic
pub mod Relation
pub mod formers
