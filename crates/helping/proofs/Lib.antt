-- What the proofs share.
pub mod Deciding
pub mod Beginning
