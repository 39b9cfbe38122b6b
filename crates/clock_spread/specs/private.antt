pub mod MovedStarts
