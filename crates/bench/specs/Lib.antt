pub mod Ports
pub mod Rounds
