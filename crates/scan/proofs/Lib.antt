pub mod Runs
pub mod Bounds
mod Words
mod Decimal
mod Numbers
pub mod Quick
