pub mod Addresses
pub mod Kept
pub mod Looking
pub mod Wants
