pub mod Deciding
pub mod Unheld
pub mod Valued
