mod Fields
mod Scalars
pub mod Ordered
mod Walking
mod Counting
mod Plain
mod Short
pub mod MemberLaws
pub mod Paths
pub mod Texts
pub mod Findings
