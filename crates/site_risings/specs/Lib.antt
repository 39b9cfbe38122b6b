pub mod SiteFailures
pub mod Laws
pub mod Risings
pub mod private
