pub mod Stores
pub mod Trimming
pub mod Search
pub mod Table
