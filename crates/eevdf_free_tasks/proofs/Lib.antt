pub mod Numbers
pub mod Comings
pub mod Parts
pub mod Openings
