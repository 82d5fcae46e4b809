pub mod Endings
pub mod Continuing
pub mod Least
pub mod Rising
pub mod NextOffers
pub mod NextLeases
pub mod NextPorts
pub mod Served
