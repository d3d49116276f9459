pub mod Steps
pub mod Table
pub mod Fed
pub mod Runs
pub mod Agree
