pub mod Planned
pub mod Printing
pub mod Standing
pub mod private
