pub mod Back
pub mod Cuts
pub mod Entries
pub mod Numerals
mod HexBlocks
mod HexValues
mod Marks
mod Pairs
mod Parts
mod Pieces
mod Rising
pub mod Sizes
pub mod Splits
pub mod Texts
