pub mod TestModels
