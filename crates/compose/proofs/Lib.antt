pub mod Comparing
pub mod Answers
pub mod Agreeing
pub mod Theorems
pub mod Table
