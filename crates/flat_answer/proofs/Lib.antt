pub mod OneAnswer
pub mod Ranks
