mod Parts
mod Entries
mod Calls
mod Bodies
mod Distinct
mod Whole
