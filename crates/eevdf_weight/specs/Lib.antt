pub mod Limits
pub mod Weight
pub mod Charge
pub mod Placement
pub mod Inverse
