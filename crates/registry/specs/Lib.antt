pub mod Templates
pub mod Index
