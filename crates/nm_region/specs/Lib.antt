pub mod Buffers
pub mod Lending
pub mod LendingPart
pub mod Marked
pub mod Opened
pub mod Parts
pub mod Returned
pub mod Regions
