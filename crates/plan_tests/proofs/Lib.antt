pub mod Fine
pub mod Risings
pub mod TestModels
