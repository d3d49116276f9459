mod Lists
mod Pairs
pub mod Remaining
pub mod Comparing
mod Plain
mod Headed
mod Chars
mod Short
