mod Ends
mod Extends
mod Loads
pub mod Numerals
mod Pairs
mod Plain
pub mod Positions
mod Texts
