pub mod Placings
pub mod Keeping
pub mod Rows
