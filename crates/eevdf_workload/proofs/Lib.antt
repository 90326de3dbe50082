pub mod ReadingWords
mod ReadingLists
mod ReadingWorkloads
mod ReadingDocuments
pub mod ReadingLevels
pub mod InputLimit
mod KeptResults
mod WiderLimits
mod VersionMeanings
mod ReadingBesides
mod ReadingFronts
mod ReadingPlainValues
mod ReadingPlainArrays
mod ReadingPlainLists
mod ReadingByFronts
