-- Column elimination: definitions, and the statements that proofs/ proves. Each file builds on those above it.
-- Assumes nothing.
pub mod Written
pub mod Columns
