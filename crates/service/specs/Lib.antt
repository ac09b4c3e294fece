-- Jobs of any kind over lent memory. Each file builds on those above it.
-- Assumes nothing.
pub mod Service
pub mod Demand
pub mod Units
pub mod Laws
pub mod JobKinds
pub mod RowUnits
