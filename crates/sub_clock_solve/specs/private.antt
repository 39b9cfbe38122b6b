pub mod Failing
pub mod Gathering
pub mod Given
pub mod Seeding
pub mod Spreading
