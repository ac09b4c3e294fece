-- The laws of this crate that belong to no one function.
pub mod Every
pub mod Entries
pub mod Rules
pub mod Generating
