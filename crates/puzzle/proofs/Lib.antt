-- The laws of this crate that belong to no one function, and its theorem.
pub mod Pieces
pub mod Showing
pub mod Solving
pub mod Reading
pub mod Widths
