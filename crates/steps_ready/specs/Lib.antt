pub mod Ready
pub mod Division
pub mod Parting
pub mod Starting
