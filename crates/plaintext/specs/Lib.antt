pub mod Lines
pub mod Reading
pub mod Theorems
pub mod Scanning
