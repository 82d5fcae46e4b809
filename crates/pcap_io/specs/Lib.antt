pub mod Capture
pub mod Faults
pub mod Laws
pub mod Limits
pub mod Written
pub mod Rows
