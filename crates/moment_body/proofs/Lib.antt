pub mod Beginning
pub mod Called
pub mod Moving
pub mod Noting
pub mod Written
