pub mod Deciding
pub mod Expressing
mod Pathing
