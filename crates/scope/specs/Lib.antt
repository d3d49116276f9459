pub mod Scopes
pub mod Standing
pub mod Names
pub mod Made
pub mod NameBits
