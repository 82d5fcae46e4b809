pub mod Leases
