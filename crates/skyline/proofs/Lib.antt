pub mod Search
pub mod Skylines
pub mod Update
pub mod Theorems
