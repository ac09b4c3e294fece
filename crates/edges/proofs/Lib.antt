-- The laws of this crate that belong to no one function, and the theorem.
pub mod Edges
pub mod Theorems
