-- The laws of this crate that belong to no one function. Each file builds on those above it.
pub mod Rounds
pub mod Fits
pub mod Checkpoints
pub mod Next
