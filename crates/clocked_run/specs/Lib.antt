pub mod TopCall
pub mod private
