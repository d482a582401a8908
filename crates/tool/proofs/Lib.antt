pub mod Paths
pub mod Table
