pub mod Walk
pub mod WalkLaws
pub mod Text
pub mod Arms
pub mod Names
pub mod Listed
pub mod Verdict
pub mod Ascii
