pub mod Coded
pub mod Uncoded
pub mod private
