-- The laws of this crate that belong to no one function, and the proofs of its theorems.
pub mod RowCells
pub mod Lines
pub mod Scans
pub mod Answers
pub mod Cells
pub mod Cutting
pub mod Reading
pub mod RoundTrip
