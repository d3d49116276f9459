pub mod Indents
pub mod Inlined
pub mod Defined
