pub mod Shares
pub mod Standing
pub mod Taking
pub mod private
