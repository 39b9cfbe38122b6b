pub mod Forces
pub mod Givings
pub mod Listing
pub mod ShortStarts
pub mod Walking
