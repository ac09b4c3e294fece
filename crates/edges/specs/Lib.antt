pub mod Edges
pub mod Theorems
