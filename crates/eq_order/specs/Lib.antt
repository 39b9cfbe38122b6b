pub mod Order
pub mod private
