pub mod Views
pub mod Content
pub mod Bodies
