pub mod Units
pub mod Seats
pub mod Leaving
pub mod Outputs
pub mod SavedActs
pub mod Plays
pub mod Words
