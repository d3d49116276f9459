pub mod Target
pub mod TargetLaws
