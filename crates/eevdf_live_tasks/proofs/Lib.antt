pub mod Lives
pub mod Openings
