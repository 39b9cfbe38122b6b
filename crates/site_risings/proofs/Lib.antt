pub mod Answering
pub mod Lacks
pub mod Levels
pub mod NotedMore
pub mod RisingLaw
