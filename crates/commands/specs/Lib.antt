pub mod Reading
pub mod Taking
pub mod Telling
