pub mod Holds
pub mod HoldsLaws
pub mod Parts
pub mod Views
pub mod Says
