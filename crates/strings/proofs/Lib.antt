pub mod Lengths
mod Ends
pub mod Quick
