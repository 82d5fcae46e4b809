pub mod Numbered
pub mod Shares
pub mod Passes
pub mod Rule
pub mod Plays
pub mod Turns
pub mod Samples
