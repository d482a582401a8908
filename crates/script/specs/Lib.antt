pub mod Doing
pub mod Passing
pub mod Running
pub mod Stepping
pub mod Table
