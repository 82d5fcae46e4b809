pub mod Opened
pub mod Ports
pub mod Rounds
