pub mod Rest
pub mod Strip
pub mod Laws
