pub mod Answers
pub mod Broken
pub mod Flat
pub mod Inputs
pub mod Model
pub mod Places
