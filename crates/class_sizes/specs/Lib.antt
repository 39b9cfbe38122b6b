pub mod Equations
pub mod Owners
pub mod Tokens
