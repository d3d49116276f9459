-- What the proofs of the clearing loops share.
mod Clearing
