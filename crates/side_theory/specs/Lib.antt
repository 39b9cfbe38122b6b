pub mod Counted
pub mod Kept
pub mod Runs
pub mod SetOn
pub mod Sides
pub mod Stretches
pub mod Typed
