mod Chars
mod Leads
mod Strings
mod Bundled
mod Numbers
pub mod Counts
