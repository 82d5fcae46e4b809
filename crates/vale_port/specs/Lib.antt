pub mod Seat
pub mod Kept
pub mod Ports
pub mod Laws
pub mod Stored
pub mod Rooms
pub mod Lists
pub mod Words
