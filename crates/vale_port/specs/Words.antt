-- The words of other crates that the contracts have in common, in one place.
pub use Rattle.nm_region.specs.Buffers.{indices_of}
pub use Rattle.nm_types.specs.Frames.{Frame, size_of_frames}
pub use Rattle.nm_types.specs.Names.{IsName, colon_in, switch_of}
pub use Rattle.nm_types.specs.Openings.{is_on_switch}
pub use Rattle.std.specs.List.{list_any, remove, starts_with}
pub use Rattle.vale_entry.specs.Closing.{is_port_of, leases_out, shutting_port, unread_count}
pub use Rattle.vale_entry.specs.Delivered.{port_at}
pub use Rattle.vale_entry.specs.Delivery.{delivered_frames}
pub use Rattle.vale_entry.specs.Holdings.{buffers_at_port}
pub use Rattle.vale_entry.specs.Pipe.{taken_count}
pub use Rattle.vale_entry.specs.World.{Offer, due_of, open_port}
pub use Rattle.vale_lease.specs.Leases.{is_there, out_count}
pub use Rattle.vale_line.specs.Fitting.{IsFrameSize}
pub use Rattle.vale_line.specs.Gots.{FitsPart, IsSingle, buffers_of, frames_in}
pub use Rattle.vale_line.specs.Leased.{buffer_count}
pub use Rattle.vale_line.specs.Lines.{completed, given_by_sync, granted_sizes}
pub use Rattle.vale_line.specs.Lines.{held_gots, leased, leases_of, out_of, ready_frames, ready_gots}
pub use Rattle.vale_line.specs.Lines.{room_to_sync, slots_out, space_of, with_lease}
