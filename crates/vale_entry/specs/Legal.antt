-- A history is legal where each entry's ask is enabled by what stands after the entries before it,
-- and its session and its reply are those of the step.
use Rattle.std.specs.Prelude.{ℕ, Bool, true, false, ◌&&◌, ◌||◌, ◌==◌, ◌≡◌, ◌+◌, ◌*◌, ◌^◌, nat_le, nat_lt, if◌then◌else◌, List, [], ◌∷◌, ◌++◌, length, take, fold, count_by, Option, Some, None, option_map, is_some, IsTrue}
use Rattle.std.specs.List.{list_all}
use Rattle.nm_types.specs.Frames.{Frame, size_of_frames}
use Rattle.nm_types.specs.Names.{is_name, is_switch_port_name, is_pipe_name, is_monitor_name}
use Rattle.nm_types.specs.Sendable.{is_sendable}
use Rattle.nm_types.specs.SyncFaults.{is_check_fault}
use Rattle.nm_types.specs.Limits.{most_batch}
use Rattle.nm_types.specs.declared.fault.OpenFault.{OpenFault}
use Rattle.nm_types.specs.declared.fault.SyncFault.{SyncFault}
use Rattle.nm_types.specs.declared.fault.SyncFault.TheVariants as faults
use Rattle.nm_types.specs.declared.id.Side.{Side}
use Rattle.nm_types.specs.declared.id.Side.TheVariants.{Tx, Rx}
use Rattle.nm_types.specs.declared.id.Sides.{Sides}
use Rattle.nm_types.specs.declared.id.Chain.{Chain}
use Rattle.vale_entry.specs.declared.entry.Ask.{Ask}
use Rattle.vale_entry.specs.declared.entry.Ask.TheVariants.{Enter, Open, Send, Grant, Done, Sync, Reset, Shut, Finish, Leave, Put, PutKept, Get, Watch, Stat}
use Rattle.vale_entry.specs.declared.entry.Dest.{Dest}
use Rattle.vale_entry.specs.declared.entry.Item.{Item}
use Rattle.vale_entry.specs.declared.entry.Reply.{Reply}
use Rattle.vale_entry.specs.declared.entry.Reply.TheVariants.{Made, Opened, Refused, Offered, Gave, Took, PeerGone, Unread, LeasesOut, Watching, NoTarget, Watched, Counted}
use Rattle.vale_entry.specs.declared.entry.Entry.{Entry}
use Rattle.vale_entry.specs.World.{World, Port, Lot, Offer, Watch as Watcher, empty_world, is_session, open_port, changed_at, due_of, is_settled, transmit_monitor, receive_monitor}
use Rattle.vale_entry.specs.Learning.{is_short, learned_of_batch}
use Rattle.vale_entry.specs.Lookup.{Named, named_frames, is_lone}
use Rattle.vale_entry.specs.Offers.{wanted_frames, monitored_frames, offers_of, dests_of}
use Rattle.vale_entry.specs.Grant.{first_offer, grant_reply, after_grant, granted_frames, room_back}
use Rattle.vale_entry.specs.Delivery.{lease_at, ports_after_done, ready_lots, delivered_frames, port_after_sync}
use Rattle.vale_entry.specs.Opening.{open_refusal, after_open}
use Rattle.vale_entry.specs.Closing.{shutting_port, shut, watches_without, leases_out, unread_count, ports_without, can_leave, sessions_without}
use Rattle.vale_entry.specs.Monitors.{open_port_as, watch_of, can_watch}
use Rattle.vale_entry.specs.Pipe.{peer_of, taken_count, indices_of, frames_of_items, is_pipe_item, port_after_put}
use Rattle.vale_entry.specs.Counters.{counts_after, counts_of}
use Rattle.vale_entry.specs.Holdings.{Holdings, all_free, holdings_after_enter, holdings_after_open, holdings_after_grant, holdings_after_sync, holdings_after_put, holdings_after_finish, holdings_after_leave, holds_all}

-- what stands after a history: its entries, its world, and who holds which buffer
pub record Standing : Type 0 where
  pub past : List Entry
  pub world : World
  pub holdings : Holdings

-- what an ask makes: whose it is, its reply, the entries of room that it takes or promises beyond
-- those that were promised before, how much of the room comes back at once, and what stands after it
pub record Outcome : Type 0 where
  pub session : ℕ
  pub reply : Reply
  pub want : ℕ
  pub back : ℕ
  pub next : Standing

abbrev pub fresh_standing : ℕ → Standing
fresh_standing pool = record { past = []; world = empty_world pool; holdings = all_free pool }

-- The steps.

-- what is answered without a change
abbrev pub unchanged : Standing → ℕ → Reply → Outcome
unchanged s session reply =
    record { session = session; reply = reply; want = 1; back = 0; next = s }

-- the room of an entry with these destinations: itself, and a Grant and a Done for each
abbrev pub room_of_dests : List Dest → ℕ
room_of_dests to = 1 + 2 * length to

abbrev pub enter_step : Standing → Outcome
enter_step s = record {
  session = s.world.entry_count + 1;
  reply = Made;
  want = 2;
  back = 0;
  next = record s {
    world = record s.world { sessions = s.world.sessions ++ (s.world.entry_count + 1) ∷ [] };
    holdings = holdings_after_enter (s.world.entry_count + 1) s.holdings;
  };
}

abbrev pub open_step_by : Option OpenFault → Standing → ℕ → List ℕ → ℕ → ℕ → ℕ → Outcome
open_step_by (Some fault) s session name tx rx extra = unchanged s session (Refused fault)
open_step_by None s session name tx rx extra = record {
  session = session;
  reply = Opened;
  want = 3;
  back = 0;
  next = record s {
    world = after_open s.world session name tx rx extra;
    holdings = holdings_after_open (s.world.entry_count + 1) session tx rx extra s.holdings;
  };
}

abbrev pub open_step : Standing → ℕ → List ℕ → ℕ → ℕ → ℕ → Outcome
open_step s session name tx rx extra =
    open_step_by (open_refusal s.world name tx rx extra) s session name tx rx extra

abbrev pub named_of : World → Port → List Frame → List Named
named_of w port frames = named_frames w.ports port w.pairs frames

abbrev pub offers_of_send : World → Port → List Frame → List Offer
offers_of_send w port frames =
    offers_of (w.entry_count + 1) port.session
    (wanted_frames port (transmit_monitor w port.id) (named_of w port frames)) w.ports

abbrev pub send_step : Standing → List Frame → Port → Outcome
send_step s frames port = record {
  session = port.session;
  reply =
      Offered (count_by is_short frames)
      (count_by (is_lone s.world.ports port) (named_of s.world port frames))
      (dests_of (offers_of_send s.world port frames));
  want = room_of_dests (dests_of (offers_of_send s.world port frames));
  back = 0;
  next = record s {
    world = record s.world {
      pairs = learned_of_batch port s.world.pairs frames;
      offers = s.world.offers ++ offers_of_send s.world port frames;
    };
  };
}

abbrev pub grant_step : Standing → Offer → Outcome
grant_step s offer = record {
  session = offer.session;
  reply = grant_reply s.world offer;
  want = 0;
  back = room_back (granted_frames s.world offer);
  next = record s {
    world = after_grant s.world offer;
    holdings =
        holdings_after_grant offer.to (size_of_frames (granted_frames s.world offer)) s.holdings;
  };
}

abbrev pub done_step : Standing → ℕ → Lot → Outcome
done_step s number lot = record {
  session = lot.session;
  reply = Made;
  want = 0;
  back = 0;
  next = record s { world = record s.world { ports = ports_after_done number s.world.ports } };
}

abbrev pub offers_of_sync : World → Port → List Offer
offers_of_sync w port =
    offers_of (w.entry_count + 1) port.session
    (monitored_frames (receive_monitor w port.id) (delivered_frames port)) w.ports

-- of a Sync, and of a Get
abbrev pub sync_step : Standing → List ℕ → Port → Outcome
sync_step s back port = record {
  session = port.session;
  reply = Gave (length (delivered_frames port)) (dests_of (offers_of_sync s.world port));
  want = room_of_dests (dests_of (offers_of_sync s.world port));
  back = 0;
  next = record s {
    world = record s.world {
      ports = changed_at port.id (port_after_sync (length back)) s.world.ports;
      offers = s.world.offers ++ offers_of_sync s.world port;
    };
    holdings = holdings_after_sync port.id port.session (length (ready_lots port)) back s.holdings;
  };
}

abbrev pub shut_step : Standing → Port → Outcome
shut_step s port = record {
  session = port.session;
  reply = Made;
  want = 0;
  back = 0;
  next =
      record s {
        world = record s.world {
          ports = changed_at port.id shut s.world.ports;
          watches = watches_without port.id s.world.watches;
        };
      };
}

abbrev pub finish_step : Standing → List ℕ → Port → Outcome
finish_step s bufs port = record {
  session = port.session;
  reply = Unread (unread_count port);
  want = 0;
  back = 0;
  next = record s {
    world = record s.world { ports = ports_without port.id s.world.ports };
    holdings = holdings_after_finish port.id port.session bufs s.holdings;
  };
}

abbrev pub leave_step : Standing → ℕ → Outcome
leave_step s session = record {
  session = session;
  reply = Made;
  want = 0;
  back = 0;
  next = record s {
    world = record s.world { sessions = sessions_without session s.world.sessions };
    holdings = holdings_after_leave session s.holdings;
  };
}

abbrev pub offers_of_put : World → Port → List Frame → List Offer
offers_of_put w port frames =
    offers_of (w.entry_count + 1) port.session
    (monitored_frames (transmit_monitor w port.id) frames) w.ports

-- the other end takes these items
abbrev pub put_step : Standing → List Item → Port → Port → Outcome
put_step s items port peer = record {
  session = port.session;
  reply = Took items (dests_of (offers_of_put s.world port (frames_of_items items)));
  want = room_of_dests (dests_of (offers_of_put s.world port (frames_of_items items)));
  back = 0;
  next = record s {
    world = record s.world {
      ports =
          changed_at peer.id
          (port_after_put (s.world.entry_count + 1) port.session (frames_of_items items))
          s.world.ports;
      offers = s.world.offers ++ offers_of_put s.world port (frames_of_items items);
    };
    holdings = holdings_after_put peer.id port.session (indices_of items) s.holdings;
  };
}

abbrev pub put_step_by : Standing → List Item → Port → Option Port → Outcome
put_step_by s items port None = unchanged s port.session PeerGone
put_step_by s items port (Some peer) = put_step s items port peer

abbrev pub watch_step : Standing → Sides → Port → Port → Outcome
watch_step s sides monitor target = record {
  session = monitor.session;
  reply = Watching (record { 0 = target.id });
  want = 1;
  back = 0;
  next =
      record s {
        world = record s.world {
          watches =
              s.world.watches
              ++ (record { monitor = monitor.id; target = target.id; sides = sides }) ∷ [];
        };
      };
}

-- a port that is watched has its monitor already
abbrev pub watch_step_by : Standing → Sides → Port → Port → Option Watcher → Outcome
watch_step_by s sides monitor target None = watch_step s sides monitor target
watch_step_by s sides monitor target (Some watch) =
    unchanged s monitor.session (Watched (record { 0 = watch.monitor }))

abbrev pub watch_step_of : Standing → Sides → Port → Option Port → Outcome
watch_step_of s sides monitor None = unchanged s monitor.session NoTarget
watch_step_of s sides monitor (Some target) =
    watch_step_by s sides monitor target (watch_of s.world.watches target.id)

abbrev pub reset_step : Standing → Port → Outcome
reset_step s port = unchanged s port.session Made

abbrev pub stat_step : Standing → Port → Outcome
stat_step s port = unchanged s port.session (Counted (counts_of s.world.counts port.id))

-- When an ask is enabled.

-- numbers that fit the fields in which they are kept
abbrev pub fits_u16 : ℕ → Bool
fits_u16 n = nat_lt n (2 ^ 16)

abbrev pub fits_u32 : ℕ → Bool
fits_u32 n = nat_lt n (2 ^ 32)

abbrev pub fits_u64 : ℕ → Bool
fits_u64 n = nat_lt n (2 ^ 64)

abbrev pub can_open : World → ℕ → List ℕ → ℕ → ℕ → ℕ → Bool
can_open w session name tx rx extra =
    is_session w session && (is_name name && (fits_u32 tx && (fits_u32 rx && fits_u32 extra)))

abbrev pub can_send : World → List Frame → Port → Bool
can_send w frames port =
    is_switch_port_name port.name && (is_settled w port.session && is_sendable frames)

-- the first offer of the entry that is not granted is the one to this port
abbrev pub is_offer_next : ℕ → Offer → Bool
is_offer_next to offer = offer.to == to

-- the session is settled, and brings back buffers of its own, no more of them than are out
abbrev pub can_receive : Standing → List ℕ → Port → Bool
can_receive s back port =
    is_settled s.world port.session
    && (nat_le (length back) port.out && holds_all s.holdings port.session back)

abbrev pub can_sync : Standing → List ℕ → Port → Bool
can_sync s back port =
    (is_switch_port_name port.name || is_monitor_name port.name) && can_receive s back port

abbrev pub can_get : Standing → List ℕ → Port → Bool
can_get s back port = is_pipe_name port.name && can_receive s back port

-- a monitor's port has no transmit ring
abbrev pub has_ring : Side → Port → Bool
has_ring Tx port = nat_lt 0 port.tx
has_ring Rx port = true

-- the numbers of a refused sync fit their fields
abbrev pub fits_fault : SyncFault → Bool
fits_fault (faults.HeadOut head from to) = fits_u32 head && (fits_u32 from && fits_u32 to)
fits_fault (faults.CurOut cur from to) = fits_u32 cur && (fits_u32 from && fits_u32 to)
fits_fault (faults.Indirect slot) = fits_u32 slot
fits_fault (faults.IndexOut slot idx) = fits_u32 slot && fits_u32 idx
fits_fault (faults.NotHeld slot idx) = fits_u32 slot && fits_u32 idx
fits_fault (faults.Doubled slot idx) = fits_u32 slot && fits_u32 idx
fits_fault (faults.Unannounced slot idx was) = fits_u32 slot && (fits_u32 idx && fits_u32 was)
fits_fault (faults.LongLen slot len) = fits_u32 slot && fits_u16 len
fits_fault (faults.Fragment slot) = fits_u32 slot
fits_fault faults.PeerGone = true
fits_fault (faults.RecordFull what used want) = fits_u64 used && fits_u64 want
fits_fault faults.NoMemory = true

-- one of the nine refusals of a sync's checks
abbrev pub can_reset : Side → SyncFault → Port → Bool
can_reset side fault port = has_ring side port && (is_check_fault fault && fits_fault fault)

abbrev pub can_shut : World → Port → Bool
can_shut w port = is_settled w port.session

-- a port goes with the buffers that its session is due for it
abbrev pub can_finish : Standing → List ℕ → Port → Bool
can_finish s bufs port = (length bufs == due_of port) && holds_all s.holdings port.session bufs

abbrev pub fits_chain : Chain → Bool
fits_chain chain = fits_u32 chain.found && fits_u32 chain.astray

-- the session is settled, and these are frames in buffers of its own
abbrev pub can_offer : Standing → List Item → Port → Bool
can_offer s items port =
    is_pipe_name port.name
    && (is_settled s.world port.session
    && (list_all is_pipe_item items && holds_all s.holdings port.session (indices_of items)))

abbrev pub can_put : Standing → List Item → Port → Bool
can_put s offered port = can_offer s offered port && nat_le (length offered) most_batch

-- whether something that is looked for is there and passes a test
abbrev pub is_met : {X : Type 0} → (X → Bool) → Option X → Bool
is_met test None = false
is_met test (Some x) = test x

-- the table of the asks that are enabled
abbrev pub is_enabled : Standing → Ask → Bool
is_enabled s (Enter user) = fits_u64 user
is_enabled s (Open session name tx rx extra) = can_open s.world session.0 name tx rx extra
is_enabled s (Send port frames) = is_met (can_send s.world frames) (open_port s.world.ports port.0)
is_enabled s (Grant origin to) = is_met (is_offer_next to.0) (first_offer s.world origin)
is_enabled s (Done lease) = is_some (lease_at s.world.ports lease.0)
is_enabled s (Sync port back) = is_met (can_sync s back) (open_port s.world.ports port.0)
is_enabled s (Reset port side fault) =
    is_met (can_reset side fault) (open_port s.world.ports port.0)
is_enabled s (Shut port) = is_met (can_shut s.world) (open_port s.world.ports port.0)
is_enabled s (Finish port bufs chain) =
    fits_chain chain && is_met (can_finish s bufs) (shutting_port s.world.ports port.0)
is_enabled s (Leave session) = can_leave s.world session.0
is_enabled s (Put port offered) = is_met (can_put s offered) (open_port s.world.ports port.0)
is_enabled s (PutKept port offered) = false
is_enabled s (Get port back) = is_met (can_get s back) (open_port s.world.ports port.0)
is_enabled s (Watch monitor target sides) =
    is_met (can_watch target) (open_port s.world.ports monitor.0)
is_enabled s (Stat port) = is_some (open_port s.world.ports port.0)

-- a Finish is enabled also where it waits for leases
abbrev pub IsEnabled : Standing → Ask → Type 0
IsEnabled s ask = IsTrue (is_enabled s ask)

-- The step of an ask.

-- the step at what is looked for, where that is there and passes the test
abbrev pub made_at : {X : Type 0} → (X → Bool) → (X → Outcome) → Option X → Option Outcome
made_at test make None = None
made_at test make (Some x) = if test x then Some (make x) else None

abbrev pub send_step_at : Standing → List Frame → Option Port → Option Outcome
send_step_at s frames found = made_at (can_send s.world frames) (send_step s frames) found

abbrev pub grant_step_at : Standing → ℕ → Option Offer → Option Outcome
grant_step_at s to found = made_at (is_offer_next to) (grant_step s) found

abbrev pub done_step_at : Standing → ℕ → Option Lot → Option Outcome
done_step_at s number found = option_map (done_step s number) found

abbrev pub sync_step_at : Standing → List ℕ → Option Port → Option Outcome
sync_step_at s back found = made_at (can_sync s back) (sync_step s back) found

abbrev pub shut_step_at : Standing → Option Port → Option Outcome
shut_step_at s found = made_at (can_shut s.world) (shut_step s) found

-- the port may go, and has no lease out
abbrev pub can_go : Standing → List ℕ → Port → Bool
can_go s bufs port = can_finish s bufs port && (leases_out port == 0)

abbrev pub finish_step_at : Standing → List ℕ → Option Port → Option Outcome
finish_step_at s bufs found = made_at (can_go s bufs) (finish_step s bufs) found

-- of what is offered, as many items are taken as there is room for
abbrev pub put_step_at : Standing → List Item → Port → Outcome
put_step_at s offered port =
    put_step_by s (take (taken_count (peer_of s.world.ports port) (length offered)) offered) port
    (peer_of s.world.ports port)

-- the step of an ask, or none where it makes no entry: where it is not enabled, and where a Finish
-- waits
abbrev pub step : Standing → Ask → Option Outcome
step s (Enter user) = if fits_u64 user then Some (enter_step s) else None
step s (Open session name tx rx extra) =
    if can_open s.world session.0 name tx rx extra
    then Some (open_step s session.0 name tx rx extra)
    else None
step s (Send port frames) = send_step_at s frames (open_port s.world.ports port.0)
step s (Grant origin to) = grant_step_at s to.0 (first_offer s.world origin)
step s (Done lease) = done_step_at s lease.0 (lease_at s.world.ports lease.0)
step s (Sync port back) = sync_step_at s back (open_port s.world.ports port.0)
step s (Reset port side fault) =
    made_at (can_reset side fault) (reset_step s) (open_port s.world.ports port.0)
step s (Shut port) = shut_step_at s (open_port s.world.ports port.0)
step s (Finish port bufs chain) =
    if fits_chain chain then finish_step_at s bufs (shutting_port s.world.ports port.0) else None
step s (Leave session) = if can_leave s.world session.0 then Some (leave_step s session.0) else None
step s (Put port offered) =
    made_at (can_put s offered) (put_step_at s offered) (open_port s.world.ports port.0)
step s (PutKept port offered) = None
step s (Get port back) =
    made_at (can_get s back) (sync_step s back) (open_port s.world.ports port.0)
step s (Watch monitor target sides) =
    made_at (can_watch target)
    (λ port. watch_step_of s sides port (open_port_as s.world.ports target))
    (open_port s.world.ports monitor.0)
step s (Stat port) = option_map (stat_step s) (open_port s.world.ports port.0)

abbrev pub reply_of : Outcome → Reply
reply_of made = made.reply

-- a Finish that waits for leases is answered how many, and makes no entry
abbrev pub finish_reply : Port → Reply
finish_reply port =
    if leases_out port == 0 then Unread (unread_count port) else LeasesOut (leases_out port)

abbrev pub finish_reply_at : Standing → List ℕ → Option Port → Option Reply
finish_reply_at s bufs None = None
finish_reply_at s bufs (Some port) =
    if can_finish s bufs port then Some (finish_reply port) else None

-- the reply to an ask, or none where it is not enabled
abbrev pub reply_to : Standing → Ask → Option Reply
reply_to s (Finish port bufs chain) =
    if fits_chain chain then finish_reply_at s bufs (shutting_port s.world.ports port.0) else None
reply_to s ask = option_map reply_of (step s ask)

-- What an entry records.

-- a Put is stored as a PutKept, which keeps how many frames were offered; those that were taken
-- stand in its reply
abbrev pub kept_ask : Ask → Ask
kept_ask (Put port offered) = PutKept port (length offered)
kept_ask ask = ask

-- the entry of an ask, as it is stored
abbrev pub entry_by : ℕ → Ask → Reply → Entry
entry_by session ask reply =
    record { session = record { 0 = session }; ask = kept_ask ask; reply = reply }

-- the entry of a step
abbrev pub entry_of : Ask → Outcome → Entry
entry_of ask made = entry_by made.session ask made.reply

abbrev pub kept_items : Reply → List Item
kept_items (Took items to) = items
kept_items _ = []

-- so many frames were offered, of which the other end took these, which are as many as it has room
-- for
abbrev pub can_keep : Standing → ℕ → List Item → Port → Bool
can_keep s offered items port =
    can_offer s items port
    && (nat_le offered most_batch
    && (length items == taken_count (peer_of s.world.ports port) offered))

abbrev pub kept_step_at : Standing → ℕ → List Item → Option Port → Option Outcome
kept_step_at s offered items found =
    made_at (can_keep s offered items)
    (λ port. put_step_by s items port (peer_of s.world.ports port)) found

abbrev pub recorded_step : Standing → Ask → Reply → Option Outcome
recorded_step s (Put port offered) reply = None
recorded_step s (PutKept port offered) reply =
    kept_step_at s offered (kept_items reply) (open_port s.world.ports port.0)
recorded_step s ask reply = step s ask

-- with one entry more, which is counted in any case, and counts at its ports
abbrev pub standing_with : Standing → Entry → Standing → Standing
standing_with s entry next = record next {
  past = s.past ++ entry ∷ [];
  world =
      record next.world {
        entry_count = s.world.entry_count + 1;
        counts = counts_after s.world entry;
      };
}

abbrev pub standing_after : Standing → Entry → Option Outcome → Standing
standing_after s entry None = standing_with s entry s
standing_after s entry (Some made) = standing_with s entry made.next

abbrev pub after : Standing → Entry → Standing
after s entry = standing_after s entry (recorded_step s entry.ask entry.reply)

-- what stands after a history that begins with a pool of so many free buffers
abbrev pub standing_of : ℕ → List Entry → Standing
standing_of pool history = fold after (fresh_standing pool) history

abbrev pub world_of : ℕ → List Entry → World
world_of pool history = (standing_of pool history).world

abbrev pub holdings_of : ℕ → List Entry → Holdings
holdings_of pool history = (standing_of pool history).holdings

abbrev pub session_and_reply : Outcome → ℕ × Reply
session_and_reply made = (made.session, made.reply)

-- the entry is the one that its ask makes
abbrev pub Follows : Standing → Entry → Type 0
Follows s entry =
    option_map session_and_reply (recorded_step s entry.ask entry.reply)
    ≡ Some (entry.session.0, entry.reply)

abbrev pub IsLegalFrom : Standing → List Entry → Type 0
IsLegalFrom s [] = Unit {0}
IsLegalFrom s (entry ∷ entries) = Follows s entry × IsLegalFrom (after s entry) entries

abbrev pub IsLegal : ℕ → List Entry → Type 0
IsLegal pool history = IsLegalFrom (fresh_standing pool) history

-- whose an ask is, where it is enabled and makes an entry
abbrev pub session_of_outcome : Outcome → ℕ
session_of_outcome made = made.session

abbrev pub session_of : Standing → Ask → Option ℕ
session_of s ask = option_map session_of_outcome (step s ask)
