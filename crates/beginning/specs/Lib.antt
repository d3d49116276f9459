pub mod Opened
pub mod Tops
pub mod Entering
pub mod Laws
pub mod Begins
