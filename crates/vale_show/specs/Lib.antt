pub mod Desk
pub mod Page
pub mod Summary
pub mod Table
pub mod Frame
pub mod Refusals
pub mod Status
pub mod Show
