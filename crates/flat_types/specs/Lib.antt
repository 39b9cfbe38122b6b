pub mod Callees
pub mod Laws
pub mod Outcomes
pub mod Readings
pub mod Typed
pub mod private
