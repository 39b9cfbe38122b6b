pub mod Alike
pub mod Direct
pub mod Fronts
pub mod GoesOn
pub mod Joined
pub mod Least
pub mod Tells
pub mod PureValues
