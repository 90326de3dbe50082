pub mod Bounds
pub mod Courses
pub mod Priorities
