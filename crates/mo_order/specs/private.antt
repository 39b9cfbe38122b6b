pub mod Queues
pub mod Rounds
pub mod Searches
