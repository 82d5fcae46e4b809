-- The calls that a session makes of what it has of its own, and what an entry of its own makes of
-- that.
use Rattle.std.specs.Prelude.{ℕ, false, if◌then◌else◌, List, map, take, Option, Some, None}
use Rattle.nm_types.specs.declared.id.Side.{Side}
use Rattle.nm_types.specs.declared.id.Side.TheVariants.{Tx, Rx}
use Rattle.nm_types.specs.declared.fault.SyncFault.{SyncFault}
use Rattle.nm_types.specs.declared.id.PortId.{PortId}
use Rattle.nm_types.specs.Names.{is_pipe_name}
use Rattle.nm_types.specs.Slots.{pushed_frames, pushed_names}
use Rattle.nm_types.specs.OwnPorts.{OwnRing, OwnPort, OwnState, Arrival, bytes_at, buffers_in, slot_in, pushed_in, refusal_in}
use Rattle.nm_types.specs.OwnSyncs.{offered_slots, chain_in, own_after_open, own_after_send, own_after_put, own_after_receive, own_after_reset, own_after_finish}
use Rattle.vale_entry.specs.declared.entry.Item.{Item}
use Rattle.vale_entry.specs.declared.entry.Ask.{Ask}
use Rattle.vale_entry.specs.declared.entry.Ask.TheVariants.{Open, Send, Sync, Reset, Finish, Put, PutKept, Get}
use Rattle.vale_entry.specs.declared.entry.Reply.{Reply}
use Rattle.vale_entry.specs.declared.entry.Reply.TheVariants.{Opened}
use Rattle.vale_entry.specs.declared.entry.Entry.{Entry}

-- a sync that a check refuses resets its ring
abbrev pub or_reset : Option SyncFault → PortId → Side → Ask → Ask
or_reset None id side ask = ask
or_reset (Some fault) id side ask = Reset id side fault

-- the frame of a slot with its buffer, as a pipe is offered it: never marked
abbrev pub item_at : OwnState → OwnRing → ℕ → Item
item_at s r at = record {
  index = (slot_in Tx r at).buf_idx;
  bytes =
      record {
        bytes = take (slot_in Tx r at).len (bytes_at s (slot_in Tx r at).buf_idx);
        no_learn = false;
      };
}

abbrev pub offered_items : OwnState → OwnRing → List Item
offered_items s r = map (item_at s r) (offered_slots r)

-- a transmit sync sends the frames pushed, or on a pipe offers those still pushed and then those
-- pushed now
abbrev pub tx_call : OwnState → OwnPort → OwnRing → Ask
tx_call s p r = or_reset (refusal_in Tx s p r) p.id Tx
    (if is_pipe_name p.name then Put p.id (offered_items s r)
    else Send p.id (pushed_frames (bytes_at s) (pushed_in Tx r)))

-- a receive sync gives back the buffers that the pushed slots name
abbrev pub back_in : OwnPort → List ℕ
back_in p = pushed_names (pushed_in Rx p.rx)

abbrev pub rx_call : OwnState → OwnPort → Ask
rx_call s p =
    or_reset (refusal_in Rx s p p.rx) p.id Rx
    (if is_pipe_name p.name then Get p.id (back_in p) else Sync p.id (back_in p))

-- a detach names the buffers in the port's places, and says what its chain of extra buffers found
abbrev pub finish_call : OwnState → OwnPort → Ask
finish_call s p = Finish p.id (buffers_in p) (chain_in s p)

-- what a session has after an entry of its own; `number` is the entry's, and `came` what it brought
abbrev pub own_by : ℕ → Ask → Reply → List Arrival → OwnState → OwnState
own_by number (Open session name tx rx extra) Opened came s =
    own_after_open number name tx rx came s
own_by number (Reset port side fault) reply came s = own_after_reset port.0 side s
own_by number (Send port frames) reply came s = own_after_send port.0 s
own_by number (PutKept port offered) reply came s = own_after_put port.0 came s
own_by number (Sync port back) reply came s = own_after_receive port.0 came s
own_by number (Get port back) reply came s = own_after_receive port.0 came s
own_by number (Finish port bufs chain) reply came s = own_after_finish port.0 bufs s
own_by number _ reply came s = s

abbrev pub own_after : ℕ → Entry → List Arrival → OwnState → OwnState
own_after number entry came s = own_by number entry.ask entry.reply came s
