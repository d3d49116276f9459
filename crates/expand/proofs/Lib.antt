pub mod Calling
pub mod Naming
pub mod Parts
