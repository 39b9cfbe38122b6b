pub mod Faulted
pub mod Limited
pub mod Modelled
pub mod Spots
pub mod Staged
pub mod Sizing
pub mod Valued
