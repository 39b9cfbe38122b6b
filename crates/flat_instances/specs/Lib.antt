pub mod Instances
pub mod Kept
pub mod Modifications
pub mod Force
pub mod private
