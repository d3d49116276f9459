pub mod Ordered
pub mod Scanning
pub mod Told
pub mod Telling
pub mod Finding
pub mod Leading
pub mod Spelling
mod Numbers
mod Keyed
