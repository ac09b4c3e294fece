-- The laws of this crate that belong to no one function, and the proof of its theorem.
pub mod Over
pub mod BoardRows
pub mod Answers
