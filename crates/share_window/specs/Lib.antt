pub mod Owned
pub mod Windows
pub mod private
