pub mod Steps
pub mod Texts
pub mod Written
pub mod Packed
pub mod Outputs
pub mod Agree
