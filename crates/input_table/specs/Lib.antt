pub mod Fields
pub mod Headers
pub mod Laws
pub mod Rows
pub mod Tables
pub mod private
