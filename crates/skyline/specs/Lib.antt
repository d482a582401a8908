pub mod Skyline
