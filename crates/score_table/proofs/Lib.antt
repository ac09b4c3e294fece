-- The laws of this crate that belong to no one function. Each file builds on those above it.
pub mod Marks
pub mod Columns
pub mod WholeRows
pub mod Skipping
pub mod Scanning
pub mod Places
pub mod Calls
pub mod EntryLaws
pub mod Targets
