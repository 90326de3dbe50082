pub mod Lengths
pub mod Moments
