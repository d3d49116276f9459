pub mod Stored
pub mod Opens
mod Values
mod Quick
mod Items
mod Verdict
