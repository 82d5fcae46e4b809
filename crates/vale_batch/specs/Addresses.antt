-- The addresses of a frame.
pub use Rattle.nm_types.specs.Addresses.{is_short, destination_address, source_address, is_group, is_learnable}
