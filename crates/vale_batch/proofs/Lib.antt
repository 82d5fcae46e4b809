pub mod Alike
pub mod Following
pub mod Merging
pub mod Ranks
pub mod Teaching
pub mod ToOne
pub mod ToOthers
pub mod WantLemmas
