pub mod Feed
pub mod Table
pub mod Runs
