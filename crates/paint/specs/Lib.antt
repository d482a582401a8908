pub mod Backgrounds
pub mod Pictures
pub mod Painting
