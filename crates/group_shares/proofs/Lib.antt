pub mod Giving
pub mod Having
