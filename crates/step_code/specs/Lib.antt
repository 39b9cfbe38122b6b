pub mod Code
pub mod Correct
pub mod Emits
pub mod Known
pub mod Laws
pub mod Lines
pub mod Machine
