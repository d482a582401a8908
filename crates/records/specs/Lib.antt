pub mod Refusals
pub mod Settings
pub mod Records
pub mod Layouts
pub mod Ends
pub mod Operations
pub mod Samples
pub mod Table
