pub mod Said
pub mod Compared
pub mod Characters
