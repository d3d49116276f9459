pub mod Listed
pub mod Turning
