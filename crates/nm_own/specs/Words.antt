-- The words of other crates that the contracts have in common, in one place.
pub use Rattle.nm_port.specs.Closing.{buffers_with_id, bytes_of_buffers}
pub use Rattle.nm_port.specs.Offers.{frames_offered, offered_lengths}
pub use Rattle.nm_port.specs.Own.{IsTxSide, port_at, port_changed, port_seen, ring_of}
pub use Rattle.nm_port.specs.Own.{slots_at, slots_on}
pub use Rattle.nm_port.specs.Puts.{cleared}
pub use Rattle.nm_port.specs.Receives.{can_receive, own_with_arrival}
pub use Rattle.nm_port.specs.Regions.{AllOf, AreOf, IsBufferOf, SideState}
pub use Rattle.nm_port.specs.RingSlots.{slot_before_tail}
pub use Rattle.nm_port.specs.Sides.{TellsRefusal}
pub use Rattle.nm_region.specs.Buffers.{Buffer, indices_of}
pub use Rattle.nm_types.specs.Buffers.{IsPoolSize}
pub use Rattle.nm_types.specs.Chain.{chain_head, link_bytes}
pub use Rattle.nm_types.specs.OwnEdits.{has_room, sent_slot, slot_naming, slot_of_place, user_slot_at}
pub use Rattle.nm_types.specs.OwnEdits.{with_all_back, with_cur, with_extra_link, with_forwarded}
pub use Rattle.nm_types.specs.OwnEdits.{with_frame, with_head, with_head_of_chain, with_heads_forwarded}
pub use Rattle.nm_types.specs.OwnEdits.{with_part, with_parts, with_positions, with_slots_forwarded}
pub use Rattle.nm_types.specs.OwnEdits.{with_slot_field, with_slots_swapped, with_user_slot}
pub use Rattle.nm_types.specs.OwnEdits.{with_written}
pub use Rattle.nm_types.specs.Parts.{parts_of}
pub use Rattle.nm_types.specs.OwnPorts.{OwnPort, bytes_at, empty_own, is_whole_at, named_of}
pub use Rattle.nm_types.specs.OwnPorts.{port_with_id, port_with_name, pushed_on, refusal_at, ring_at}
pub use Rattle.nm_types.specs.OwnSyncs.{back_on, chain_in, own_after_finish, own_after_open}
pub use Rattle.nm_types.specs.OwnSyncs.{own_after_put, own_after_receive, own_after_reset}
pub use Rattle.nm_types.specs.OwnSyncs.{own_after_send}
pub use Rattle.nm_types.specs.Positions.{IsRingSize}
pub use Rattle.nm_types.specs.Slots.{pushed_frames}
pub use Rattle.nm_types.specs.SyncChecks.{contains_index}
pub use Rattle.nm_types.specs.declared.id.Side.TheVariants.{Rx, Tx}
pub use Rattle.std.specs.Borrow.{sem}
pub use Rattle.std.specs.List.{AllByRecursion, IsDistinct}
pub use Rattle.std.specs.Option.{option_copied, option_copied_mut}
pub use Rattle.std.specs.Vec.{vec_capacity}
pub use Rattle.std.specs.VecDeque.{deque_capacity}
