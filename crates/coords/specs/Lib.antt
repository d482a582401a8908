pub mod Coordinates
pub mod Bits
pub mod Parts
pub mod Table
