pub mod RingLaws
pub mod Distances
