-- The words of other crates that the contracts have in common, in one place.
pub use Rattle.nm_count.specs.Tallies.{counts_of, tally_after_add}
pub use Rattle.nm_types.specs.Counters.{SumFits}
pub use Rattle.nm_types.specs.Frames.{bytes_of_frames}
pub use Rattle.nm_types.specs.Ids.{lease_id}
pub use Rattle.nm_types.specs.Limits.{buffer_bytes, most_batch}
pub use Rattle.nm_types.specs.Names.{is_pipe_name, is_switch_port_name, peer_name}
pub use Rattle.nm_types.specs.Sendable.{IsFrame, is_sendable}
pub use Rattle.nm_types.specs.declared.id.Side.TheVariants.{Rx}
pub use Rattle.nm_watch.specs.Watching.{monitor_of}
pub use Rattle.std.specs.List.{range_with_len}
pub use Rattle.std.specs.Option.{ForSome}
pub use Rattle.vale_batch.specs.Addresses.{is_short}
pub use Rattle.vale_batch.specs.Looking.{learned_of_batch, looked_up_batch, untaught_all}
pub use Rattle.vale_batch.specs.Wants.{IsRising, is_lone, is_short_destination, port_number, wanted}
pub use Rattle.vale_batch.specs.Wants.{wants_of}
pub use Rattle.vale_entry.specs.Counters.{count_shared}
pub use Rattle.vale_entry.specs.Pipe.{frames_of_items}
pub use Rattle.vale_entry.specs.Room.{frame_bytes}
pub use Rattle.vale_entry.specs.Stored.{Fits, IsFull}
pub use Rattle.vale_names.specs.PortNames.{IsNames}
pub use Rattle.vale_names.specs.Ports.{Joins, fresh_port, open_port_of}
pub use Rattle.vale_parts.specs.Adding.{FitsIn}
pub use Rattle.vale_parts.specs.Batches.{dests_wanted, wants_monitored, with_want}
pub use Rattle.vale_parts.specs.FreeBuffers.{CanAllBeGiven, pool_less, pool_with_all}
pub use Rattle.vale_parts.specs.FreeLaws.{IsTakenBack}
pub use Rattle.vale_parts.specs.SwitchTables.{has_table}
pub use Rattle.vale_port.specs.Kept.{bytes_of}
pub use Rattle.vale_port.specs.Laws.{line_after_put, with_line}
pub use Rattle.vale_port.specs.Lists.{ChangesSeat, ChangesSeatIf, OfSeat, OfState}
pub use Rattle.vale_port.specs.Ports.{Gives, IsFilledFor, IsLeaseFor, open_ids, opened_state, sizes_of}
pub use Rattle.vale_port.specs.Seat.{given_frames, seat_done, seat_given, seat_put, seat_synced}
pub use Rattle.vale_port.specs.Words.{FitsPart, Frame, IsFrameSize, IsSingle, Offer, buffer_count}
pub use Rattle.vale_port.specs.Words.{buffers_of, delivered_frames, frames_in, given_by_sync}
pub use Rattle.vale_port.specs.Words.{granted_sizes, indices_of, is_there, leased, leases_of}
pub use Rattle.vale_port.specs.Words.{list_any, out_of, ready_gots, room_to_sync, size_of_frames}
pub use Rattle.vale_port.specs.Words.{space_of, switch_of, taken_count, with_lease}
