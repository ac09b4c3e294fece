-- Turns of lists of any entries: what each place reads, two turns as one, and sums over the places. Each file builds on those above it.
pub mod Cells
pub mod Places
pub mod Eight
pub mod Examples
pub mod Sums
