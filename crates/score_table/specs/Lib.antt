pub mod Rows
pub mod ScoreTable
pub mod Inner
pub mod Calls
