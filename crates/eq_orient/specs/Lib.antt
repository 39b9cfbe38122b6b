pub mod Gathered
pub mod Solving
pub mod Spine
pub mod private
