pub mod Versions
pub mod Words
pub mod MeaningSteps
pub mod Meaning
pub mod Fronts
pub mod MeaningLaws
pub mod FaultTexts
