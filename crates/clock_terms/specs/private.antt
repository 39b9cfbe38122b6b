pub mod Added
pub mod Leads
