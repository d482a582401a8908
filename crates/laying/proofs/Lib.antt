pub mod Offers
pub mod Theorems
