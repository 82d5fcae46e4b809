mod Crosses
mod Lodging
pub mod Marks
pub mod Named
mod Parts
mod Returns
mod Values
mod Walks
