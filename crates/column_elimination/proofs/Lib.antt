-- The laws of column elimination, and the proofs of its theorems. Each file builds on those above it.
-- Assumes nothing.
pub mod Writing
pub mod Sizes
pub mod Greatest
pub mod Elimination
pub mod Choosing
pub mod Turns
pub mod Vectors
pub mod Layers
