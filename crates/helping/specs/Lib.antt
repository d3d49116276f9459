pub mod Begun
pub mod Decided
pub mod Few
pub mod Laws
