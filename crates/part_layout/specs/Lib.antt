pub mod Keyed
pub mod LayoutLaws
pub mod Reads
