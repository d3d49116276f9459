pub mod Entries
pub mod Meaning
pub mod MeaningLaws
pub mod Standing
pub mod Kept
pub mod Forms
pub mod Means
pub mod Truth
