mod Lists
mod Stripping
pub mod Said
pub mod Digits
mod Held
mod Numbers
pub mod Spans
pub mod Calm
