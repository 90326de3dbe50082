pub mod Turns
pub mod Lateness
