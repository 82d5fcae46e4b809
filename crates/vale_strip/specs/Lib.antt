pub mod Failures
pub mod Pieces
pub mod Placed
pub mod Spans
