pub mod Pixels
pub mod Frames
pub mod Pictures
pub mod Stacks
