pub mod Sized
pub mod Short
