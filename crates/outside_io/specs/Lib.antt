pub mod Counts
pub mod Files
pub mod FilesInMemory
pub mod NeverFailing
pub mod Puts
pub mod FileReads
pub mod TextInMemory
pub mod Texts
