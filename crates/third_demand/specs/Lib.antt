pub mod Grid
pub mod Units
pub mod Lent
pub mod Demand
pub mod Theorems
