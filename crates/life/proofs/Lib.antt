-- The laws of this crate that belong to no one function.
pub mod OnPlane
pub mod Ring
pub mod Checking
pub mod Same
pub mod Far
pub mod Judging
pub mod Stepping
pub mod Counting
pub mod Rows
pub mod Theorems
pub mod Windows
