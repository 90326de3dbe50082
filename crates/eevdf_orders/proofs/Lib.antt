pub mod ChosenPlaces
pub mod CutWorkloads
pub mod GoingAround
pub mod PlacedOrders
pub mod SeedReading
pub mod StepsLeft
