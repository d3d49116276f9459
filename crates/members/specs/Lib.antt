pub mod Turns
pub mod Next
pub mod Parts
