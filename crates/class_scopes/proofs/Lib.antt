pub mod Classes
pub mod Firsts
pub mod Leasts
pub mod Marks
pub mod Numbers
