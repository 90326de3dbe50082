pub mod Slots
pub mod Parts
pub mod Openings
