pub mod Drafts
pub mod Moments
pub mod Pure
pub mod Windows
pub mod private
