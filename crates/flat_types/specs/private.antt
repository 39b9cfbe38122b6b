pub mod Checked
pub mod Shapes
