-- Laws that belong to no one function.
pub mod Table
mod Powers
pub mod Digits
pub mod Parsing
pub mod RoundTrip
pub mod Putting
mod Writing
