pub mod Packing
pub mod Table
pub mod Reading
pub mod Quick
