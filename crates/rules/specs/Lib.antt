pub mod Placing
pub mod Faithful
pub mod Operations
pub mod Story
pub mod TableWords
pub mod Table
