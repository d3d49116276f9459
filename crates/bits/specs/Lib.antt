pub mod Fields
pub mod Compare
pub mod Packed
