-- The laws of calls and lists of calls, and the proof of the theorem.
-- Assumes nothing.
pub mod Calls
pub mod Numbers
pub mod Units
pub mod Lists
pub mod Demand
pub mod JobKinds
pub mod RowUnits
