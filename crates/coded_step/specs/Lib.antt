pub mod Taking
pub mod private
