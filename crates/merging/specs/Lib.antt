pub mod Lookup
pub mod Counting
pub mod Order
