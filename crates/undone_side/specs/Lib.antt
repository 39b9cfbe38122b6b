pub mod Undone
pub mod private
