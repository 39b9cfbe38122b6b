pub mod GivenValues
mod Modes
pub mod OneChoice
pub mod StopTexts
