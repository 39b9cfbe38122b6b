pub mod SetWords
pub mod Words
