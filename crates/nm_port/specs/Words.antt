-- The words of other crates that the contracts have in common, in one place.
pub use Rattle.nm_extra.specs.Extras.{extras_of, link_at}
pub use Rattle.nm_hold.specs.Holds.{HoldState, IsHold, buffers_of, index_at, is_named_at}
pub use Rattle.nm_hold.specs.Holds.{standing_at, with_cell}
pub use Rattle.nm_hold.specs.Offsets.{ArePortsOnce, has_place}
pub use Rattle.nm_region.specs.Buffers.{indices_of}
pub use Rattle.nm_types.specs.Buffers.{IsBufferIndex, cleared_but}
pub use Rattle.nm_types.specs.Chain.{chain_of}
pub use Rattle.nm_types.specs.OwnEdits.{slots_to_end}
pub use Rattle.nm_types.specs.OwnPorts.{blank_slot, index_of}
pub use Rattle.nm_types.specs.OwnSyncs.{accepted, opened_slot, slots_after_push, with_push_cleared}
pub use Rattle.nm_types.specs.Places.{is_same_place}
pub use Rattle.nm_types.specs.Positions.{FitsRing, IsRing, IsRingSize, dist, is_user_slot}
pub use Rattle.nm_types.specs.Positions.{opened_rx, opened_tx, slots_from, step_on}
pub use Rattle.nm_types.specs.Reset.{reset_positions}
pub use Rattle.nm_types.specs.Slots.{SlotState, frame_at, goes_on, has_flag, no_learn, part_flags, published_slot}
pub use Rattle.nm_types.specs.Slots.{pushed_names, slot_after_push}
pub use Rattle.nm_types.specs.SyncChecks.{begun_after, is_closing, is_tx, refusal_of, slots_refusal}
pub use Rattle.nm_types.specs.SyncFaults.{ring_sync_fault, slot_sync_fault}
pub use Rattle.nm_types.specs.declared.id.PortId.{PortId}
pub use Rattle.nm_types.specs.declared.id.Side.TheVariants.{Rx, Tx}
pub use Rattle.nm_types.specs.declared.place.Place.{Place}
pub use Rattle.std.specs.Borrow.{sem}
pub use Rattle.std.specs.List.{AllByRecursion, IsDistinct}
pub use Rattle.std.specs.Option.{option_copied, option_copied_mut}
pub use Rattle.std.specs.Vec.{vec_capacity}
pub use Rattle.std.specs.VecDeque.{deque_capacity}
