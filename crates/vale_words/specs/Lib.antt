pub mod Fixed
pub mod Lanes
pub mod Pairs
pub mod Words
pub mod Rows
