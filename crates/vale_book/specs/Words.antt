-- The words that the contracts of the calls have in common, in one place.
pub use Rattle.nm_region.specs.Regions.{AreOf}
pub use Rattle.nm_types.specs.Buffers.{IsPoolSize}
pub use Rattle.nm_types.specs.Limits.{most_ring}
pub use Rattle.vale_own.specs.Recorded.{HasRoom, IsRecordedAs, IsRefusal, after_ask, standing}
pub use Rattle.vale_entry.specs.Closing.{leases_out, shutting_port}
pub use Rattle.vale_entry.specs.Grant.{first_offer}
pub use Rattle.vale_entry.specs.Legal.{IsEnabled, IsLegal, reply_of, reply_to, step}
pub use Rattle.vale_entry.specs.Pipe.{peer_at}
pub use Rattle.vale_entry.specs.Room.{bytes_of, bytes_of_entry, promised_of}
pub use Rattle.vale_entry.specs.RowWords.{port}
pub use Rattle.vale_entry.specs.World.{Port, free_count, open_port}
pub use Rattle.vale_entry.specs.declared.entry.Entry.{Entry}
pub use Rattle.vale_entry.specs.declared.entry.Reply.{Reply}
pub use Rattle.vale_lease.specs.Leases.{out_count}
pub use Rattle.vale_line.specs.Gots.{IsCut}
pub use Rattle.vale_line.specs.Lines.{completed, slots_out}
pub use Rattle.vale_steps.specs.Granting.{given_by}
pub use Rattle.vale_steps.specs.NamedTables.{IsForgottenAt, IsForgottenOn, is_for_switch}
pub use Rattle.vale_steps.specs.Offering.{IsFilledIn, IsLeaseOf, OffersStand}
pub use Rattle.vale_steps.specs.Putting.{items_of, took_of}
pub use Rattle.vale_steps.specs.Reading.{read_ask}
pub use Rattle.vale_steps.specs.Words.{ChangesSeatIf, Fits, IsFilledFor, IsFull, IsSingle, OfSeat, OfState, Offer, buffer_count, buffers_of, delivered_frames, dests_wanted, frames_in, indices_of, is_switch_port_name, lease_id, leases_of, seat_done, size_of_frames, sizes_of, switch_of, wanted, with_line}
