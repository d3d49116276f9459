pub mod Answers
pub mod Places
pub mod Keys
pub mod Telling
pub mod Numbers
pub mod Keyed
