pub mod Changed
pub mod Lacking
pub mod Taking
