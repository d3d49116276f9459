pub mod Decorated
pub mod Defining
pub mod Rule
