pub mod Coding
pub mod Laying
pub mod Stepping
