mod Marked
pub mod Keeping
pub mod Out
pub mod Taken
