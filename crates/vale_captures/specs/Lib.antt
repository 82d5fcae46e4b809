pub mod Counting
pub mod Counts
pub mod Faults
pub mod Inputs
pub mod Outputs
pub mod Rows
