pub mod Checks
pub mod Answers
pub mod Begins
pub mod Calls
pub mod Names
