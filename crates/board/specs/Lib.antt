pub mod Search
pub mod Sums
pub mod Lists
pub mod Answers
pub mod Boards
pub mod Checks
