pub mod Groups
pub mod Laws
pub mod Named
pub mod PortNames
pub mod Ports
pub mod Switches
