pub mod Looked
pub mod Plain
pub mod Reading
pub mod Finding
pub mod Put
pub mod Drawn
pub mod Laws
pub mod Lookups
