pub mod Replays
pub mod Spots
pub mod Sofar
pub mod Trusting
