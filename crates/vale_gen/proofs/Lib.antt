mod Adding
mod Frames
pub mod Soundness
mod Users
