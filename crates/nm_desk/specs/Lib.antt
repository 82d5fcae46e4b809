pub mod Desks
pub mod Calls
pub mod Opening
pub mod Leaving
pub mod Watching
pub mod Syncs
pub mod Filling
