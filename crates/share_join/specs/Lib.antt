pub mod Dealing
pub mod Laws
pub mod Shares
pub mod Taking
