pub mod Many
pub mod TestModels
