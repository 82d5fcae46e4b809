pub mod DriveView
pub mod Running
pub mod Winding
pub mod Turns
