pub mod Coursing
pub mod Filled
pub mod Noted
pub mod Shown
pub mod Stepped
pub mod Turning
