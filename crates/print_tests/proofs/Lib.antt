pub mod FourNames
