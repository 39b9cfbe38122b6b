pub mod Least
pub mod Rounds
pub mod Found
pub mod Queue
pub mod Turn
pub mod private
