-- The words of other crates that the contracts have in common, in one place.
pub use Rattle.nm_own.specs.Acts.{place_seen}
pub use Rattle.nm_own.specs.Copies.{AreCopies, with_copies}
pub use Rattle.nm_own.specs.ExtraChain.{extra_at, head_of_extras, named_bytes}
pub use Rattle.nm_own.specs.LentOffers.{offered_buffers}
pub use Rattle.nm_own.specs.Opening.{IsNew, blank_arrivals}
pub use Rattle.nm_own.specs.PortPlaces.{place_with_id}
pub use Rattle.nm_port.specs.Closing.{bytes_of_buffers}
pub use Rattle.nm_port.specs.Gathered.{with_gathered}
pub use Rattle.nm_port.specs.Offers.{offered_lengths}
pub use Rattle.nm_port.specs.Own.{ring_of}
pub use Rattle.nm_port.specs.Receives.{can_receive, own_with_arrival}
pub use Rattle.nm_port.specs.Regions.{AllOf, AreOf, IsBufferOf, SideState}
pub use Rattle.nm_port.specs.Sides.{TellsRefusal}
pub use Rattle.nm_region.specs.Buffers.{indices_of}
pub use Rattle.nm_turn.specs.Passes.{HasAll, Knows, forked_view, joined_view, kept_view}
pub use Rattle.nm_turn.specs.Shares.{IsWhole}
pub use Rattle.nm_types.specs.Faults.{sync_fault_of}
pub use Rattle.nm_types.specs.Names.{IsName, is_monitor_name, is_pipe_name}
pub use Rattle.nm_types.specs.Openings.{are_sizes, is_ring_size}
pub use Rattle.nm_types.specs.OwnEdits.{has_room, user_slot_at, with_all_back, with_cur}
pub use Rattle.nm_types.specs.OwnEdits.{with_extra_link, with_forwarded, with_frame, with_head}
pub use Rattle.nm_types.specs.OwnEdits.{with_head_of_chain, with_positions, with_slot_field}
pub use Rattle.nm_types.specs.OwnEdits.{with_slots_swapped, with_user_slot, with_written}
pub use Rattle.nm_types.specs.OwnPorts.{OwnPort, bytes_at, empty_own, port_with_id, port_with_name}
pub use Rattle.nm_types.specs.OwnPorts.{refusal_at, ring_at}
pub use Rattle.nm_types.specs.Slots.{goes_on}
pub use Rattle.nm_types.specs.OwnSyncs.{back_on, own_after_open, own_after_put, own_after_receive}
pub use Rattle.nm_types.specs.declared.id.Side.TheVariants.{Rx, Tx}
pub use Rattle.std.specs.Borrow.{sem}
pub use Rattle.std.specs.List.{IsDistinct}
pub use Rattle.std.specs.Option.{option_copied, option_copied_mut, option_map_or}
pub use Rattle.std.specs.Vec.{vec_capacity}
pub use Rattle.vale_book.specs.Reading.{read_ask}
pub use Rattle.vale_entry.specs.Legal.{fits_fault}
pub use Rattle.vale_fabric.specs.Fabrics.{Answers, AnswersIn, IsPassIn, MayIn, RefusesIn, fixed_in}
pub use Rattle.vale_fabric.specs.Fabrics.{knowing}
pub use Rattle.vale_fabric.specs.Reading.{IsRead}
pub use Rattle.vale_fabric.specs.Roots.{root_of}
pub use Rattle.vale_line.specs.Gots.{buffers_of, frames_in, last_count, part_in}
pub use Rattle.vale_line.specs.declared.got.Got.{Got}
pub use Rattle.vale_own.specs.Side.{id_of}
