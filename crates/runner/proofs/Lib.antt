-- The laws of this crate that belong to no one function. Each file builds on those above it.
pub mod Appending
pub mod Memory
pub mod Turns
pub mod Openings
