pub mod Divided
pub mod EachPart
pub mod Staged
pub mod Standing
pub mod Gathered
