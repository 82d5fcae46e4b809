pub mod Appending
pub mod Gathering
pub mod Growth
mod Parts
mod Stores
