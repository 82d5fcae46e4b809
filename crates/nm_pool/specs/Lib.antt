pub mod Bits
pub mod Free
pub mod Kept
pub mod Laws
pub mod Stored
pub mod Taking
