pub mod Printed
pub mod Target
pub mod Span
