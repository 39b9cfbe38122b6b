pub mod Answer
pub mod Choice
pub mod Lines
pub mod Words
pub mod private
