pub mod Inlining
pub mod Naming
