pub mod BesideSeats
pub mod SharedTasks
