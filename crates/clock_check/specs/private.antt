pub mod Flaws
pub mod Holding
pub mod Made
pub mod Making
pub mod Numbering
