pub mod Texts
pub mod Laws
pub mod Start
pub mod Body
