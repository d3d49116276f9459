pub mod Leads
pub mod Spelled
pub mod Laws
