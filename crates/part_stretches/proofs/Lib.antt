pub mod Looping
pub mod Taking
