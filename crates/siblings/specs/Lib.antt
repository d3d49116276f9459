pub mod Agree
pub mod Siblings
pub mod Example
pub mod ExpandLaws
pub mod Run
pub mod Starred
