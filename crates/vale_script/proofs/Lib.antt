mod Causes
mod Counts
mod Cuts
mod Free
pub mod HexLines
mod Keyed
mod Packing
mod Replays
mod Sayings
mod Soundness
mod Verbs
