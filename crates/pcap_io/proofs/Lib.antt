pub mod CaptureLaws
pub mod Captures
mod Headers
mod Records
pub mod WrittenAgain
