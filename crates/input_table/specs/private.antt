pub mod Finding
pub mod Front
pub mod Plain
pub mod Standing
pub mod Reading
pub mod Quick
