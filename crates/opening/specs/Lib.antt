pub mod Scoped
pub mod Opens
