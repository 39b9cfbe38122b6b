pub mod Following
pub mod Equations
pub mod Expressions
