pub mod CallerChoice
pub mod CallerSteps
pub mod ChosenOrders
pub mod FaultLines
pub mod OrderText
pub mod OrderedWorkload
pub mod SeedWords
