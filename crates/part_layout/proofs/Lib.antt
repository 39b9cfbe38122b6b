pub mod Covering
pub mod Laid
pub mod Reading
pub mod Tables
