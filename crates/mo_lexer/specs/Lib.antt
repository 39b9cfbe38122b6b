pub mod Bytes
pub mod Spelling
pub mod Keywords
pub mod Tokens
pub mod private
