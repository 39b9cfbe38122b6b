pub mod Keeps
pub mod Modes
pub mod Printed
pub mod Refusals
pub mod Room
pub mod private
