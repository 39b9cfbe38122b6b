pub mod Across
pub mod Coursed
pub mod Joined
pub mod Moment
pub mod Plans
pub mod Runs
pub mod Shown
pub mod Stops
