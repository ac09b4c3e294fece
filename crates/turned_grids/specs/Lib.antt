pub mod Grids
pub mod Calls
pub mod Examples
