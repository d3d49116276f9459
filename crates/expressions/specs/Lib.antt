pub mod Bare
pub mod Laws
