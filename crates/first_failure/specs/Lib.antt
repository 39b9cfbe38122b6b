pub mod Careful
pub mod CarefulLaws
pub mod Lone
pub mod MomentLaws
pub mod Ready
pub mod Turns
