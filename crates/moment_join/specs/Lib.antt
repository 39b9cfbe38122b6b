pub mod Laws
pub mod Sites
pub mod Staged
pub mod Told
