pub mod Bytes
pub mod Numbers
pub mod Words
pub mod Steps
pub mod Lines
pub mod Jobs
pub mod Meanings
pub mod Table
