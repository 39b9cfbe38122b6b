pub mod Shapes
pub mod Beside
pub mod Spines
pub mod Viewing
pub mod Solving
