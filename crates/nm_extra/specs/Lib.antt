pub mod Extras
pub mod Laws
