pub mod Cells
pub mod Fields
pub mod Held
pub mod Kept
pub mod Lending
pub mod LendingRun
pub mod Placed
pub mod Sides
