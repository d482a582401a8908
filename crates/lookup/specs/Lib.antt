pub mod Zones
pub mod Looking
pub mod Reading
pub mod TableWords
pub mod Table
