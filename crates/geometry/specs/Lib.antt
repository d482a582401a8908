pub mod Words
pub mod Rects
pub mod Placing
pub mod Fits
pub mod Choice
pub mod Table
