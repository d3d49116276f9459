pub mod Writer
pub mod Outputs
