pub mod Turn
pub mod Examples
pub mod Theorems
