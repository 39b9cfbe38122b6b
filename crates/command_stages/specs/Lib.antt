pub mod Ends
pub mod Reading
pub mod Segments
pub mod private
