pub mod Composing
pub mod Checking
pub mod Comparing
pub mod TableWords
pub mod TableChecks
pub mod Table
