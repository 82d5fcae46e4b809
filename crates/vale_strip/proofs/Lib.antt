mod Blocks
mod Hundreds
mod Pairs
mod Places
mod Runs
pub mod Strips
mod WrittenSpans
