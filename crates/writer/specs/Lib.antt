pub mod Letters
pub mod Writing
pub mod Theorems
