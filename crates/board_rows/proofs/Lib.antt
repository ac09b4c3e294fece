-- The laws of a row's cells in a board, and the theorems.
pub mod Writing
pub mod Theorems
