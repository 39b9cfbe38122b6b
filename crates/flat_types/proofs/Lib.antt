pub mod Answering
pub mod Constants
pub mod Forms
pub mod Lists
pub mod Nodes
pub mod OneAnswer
