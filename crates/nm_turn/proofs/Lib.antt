pub mod Shares
pub mod Numbered
pub mod Prefixes
pub mod Keeps
pub mod Calls
pub mod Telling
pub mod Joining
pub mod Samples
