pub mod Good
pub mod Fitting
pub mod Equations
pub mod Checked
pub mod Shown
pub mod Numbers
pub mod Own
