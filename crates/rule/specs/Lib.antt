pub mod Rule
pub mod Theorems
