-- The laws of this crate, and its theorems. Each file builds on those above it.
pub mod Counts
pub mod RowLaws
pub mod HeldRows
pub mod Endings
pub mod Optimum
pub mod Theorems
pub mod Agreement
pub mod Machine
pub mod UnitLaws
pub mod CheckLaws
pub mod EdgeThrees
pub mod Progress
pub mod Third
pub mod SameBoard
