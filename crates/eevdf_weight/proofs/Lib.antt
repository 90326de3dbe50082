pub mod Weighing
mod Products
mod Stretching
pub mod Inverses
