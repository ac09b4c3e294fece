-- Turned grids: the proofs of the theorems. Each file builds on those above it.
pub mod Planes
pub mod Grids
pub mod EdgeThrees
pub mod Calls
pub mod Examples
