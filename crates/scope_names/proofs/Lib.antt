pub mod Lent
pub mod Scoped
pub mod WrittenNodes
