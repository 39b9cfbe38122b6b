pub mod Broken
pub mod Inferring
pub mod ClockingOf
pub mod Checking
pub mod Laws
pub mod private
