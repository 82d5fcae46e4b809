pub mod Completeness
pub mod FewFrames
pub mod Rows
