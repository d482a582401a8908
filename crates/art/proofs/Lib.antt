pub mod Seen
pub mod Places
pub mod Lines
pub mod Boxes
pub mod Theorems
pub mod Table
