pub mod Cells
pub mod Fitting
pub mod Gots
pub mod Leased
pub mod Lines
pub mod Rings
pub mod Stored
