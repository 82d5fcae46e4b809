pub mod AddressTable
pub mod Laws
