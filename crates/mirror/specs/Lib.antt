pub mod Mirror
pub mod Theorems
