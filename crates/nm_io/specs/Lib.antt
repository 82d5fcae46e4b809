pub mod Calls
pub mod Counts
pub mod Files
pub mod Gathered
pub mod Held
pub mod ShelfState
pub mod SinkState
pub mod Whole
