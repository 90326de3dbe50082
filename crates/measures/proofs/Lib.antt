mod ApartQueues
pub mod BesideSeats
mod SameLines
