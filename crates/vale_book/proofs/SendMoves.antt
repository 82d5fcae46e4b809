-- A send: what it makes of a book.
use Rattle.std.proofs.Common.{ℕ, true, ◌&&◌, ◌≡◌, ◌+◌, List, All, [], ◌∷◌, ◌++◌, length, map, slice_set, get_or, Option, Some, None, option_map, IsSome, refl, sym, ◌∙◌, ap, subst, arith}
use Rattle.std.specs.Prelude.{position}
use Rattle.std.specs.List.{AllByRecursion as Each}
use Rattle.std.proofs.lemmas.Bool.{and_parts}
use Rattle.std.proofs.lemmas.List.{length-append, set-get_or}
use Rattle.nm_types.specs.Frames.{Frame, bytes_of_frames}
use Rattle.nm_types.specs.Names.{switch_of, is_switch_port_name}
use Rattle.nm_types.specs.Sendable.{IsFrame, is_sendable}
use Rattle.nm_types.specs.declared.fault.StepFault.{StepFault}
use Rattle.nm_types.specs.declared.id.PortId.{PortId}
use Rattle.nm_types.specs.declared.id.SessionId.{SessionId}
use Rattle.nm_types.specs.declared.id.Side.TheVariants.{Tx}
use Rattle.nm_count.specs.Tallies.{counts_of, tally_after_add}
use Rattle.nm_pool.specs.Free.{PoolState}
use Rattle.nm_watch.specs.Watching.{monitor_of}
use Rattle.vale_learn.specs.AddressTable.{Entries}
use Rattle.vale_batch.specs.Looking.{learned_of_batch}
use Rattle.vale_batch.specs.Wants.{Wanted, IsRising, port_number}
use Rattle.vale_entry.specs.declared.entry.Ask.TheVariants.{Send}
use Rattle.vale_entry.specs.declared.entry.Reply.{Reply}
use Rattle.vale_entry.specs.declared.entry.Reply.TheVariants.{Offered}
use Rattle.vale_entry.specs.declared.entry.Entry.{Entry}
use Rattle.vale_entry.specs.World.{Port, open_port, is_settled, transmit_monitor}
use Rattle.vale_entry.specs.Counters.{count_sent}
use Rattle.vale_entry.proofs.Each.{each-offers_of}
use Rattle.vale_entry.specs.Legal.{Standing, Outcome, Follows, standing_of, session_and_reply, world_of, is_met, can_send, send_step, step, offers_of_send, reply_of}
use Rattle.vale_entry.specs.Stored.{Fits, IsFull}
use Rattle.vale_entry.proofs.Worlds.{count-world_of}
use Rattle.vale_port.specs.Seat.{seats_of}
use Rattle.vale_port.specs.Lists.{IsFoundAt, AreOpenOn, OfState}
use Rattle.vale_port.specs.Ports.{PortState}
use Rattle.vale_port.proofs.Lists.{seats-ports}
use Rattle.vale_parts.specs.Adding.{FitsIn}
use Rattle.vale_parts.specs.Batches.{wants_monitored, dests_wanted}
use Rattle.vale_parts.specs.BatchLaws.{IsSender, wants_at}
use Rattle.vale_parts.specs.Offering.{OffersAre, offers_at, offers_started}
use Rattle.vale_parts.specs.Parts.{ArePartsAfter}
use Rattle.vale_parts.specs.SwitchPorts.{open_ports_on}
use Rattle.vale_parts.specs.SwitchTables.{tables_after}
use Rattle.vale_parts.proofs.BatchWants.{sends_replied, sent_offers, dests_are_wanted, open_ports_rise, looked_up_sendable}
use Rattle.vale_parts.proofs.CountsKept.{open_counted}
use Rattle.vale_parts.proofs.Additions.{additions_fit}
use Rattle.vale_parts.proofs.OffersKept.{offers_start, sends_start}
use Rattle.vale_book.specs.declared.book.Book.TheInside.{Inside}
use Rattle.vale_steps.specs.declared.tables.NamedTable.{NamedTable}
use Rattle.vale_steps.specs.NamedTables.{is_for_switch}
use Rattle.vale_steps.specs.NamedTables.{table_seen}
use Rattle.nm_region.specs.Regions.{AreOf}
use Rattle.vale_book.specs.BookView.{recorded, parts_in, number_of_session, IsBook}
use Rattle.vale_own.specs.Recorded.{entry_of, standing, IsRefusal}
use Rattle.vale_steps.specs.Offering.{OffersState, IsOfferBy}
use Rattle.vale_steps.specs.Sending.{all_wants, classed, send_entry, send_room, send_offers, sent_counts}
use Rattle.vale_book.specs.Sending.{IsSent}
use Rattle.vale_book.proofs.Moves.{Moves, before, full-step, fits-step, entries-few}
use Rattle.vale_book.proofs.Standing.{ports-rising}
use Rattle.vale_book.proofs.Found.{IsOpenHere, open_at, open-here, session-here}
use Rattle.vale_book.proofs.SenderTables.{IsTableAt, table-at, table-found, sender-at, sends-teach_at}

abbrev Sends : Inside → PortId → ℕ → List Frame → Type 0
Sends b from place frames = IsOpenHere b from.0 place (can_send (before b).world frames)

abbrev pub send_made : (b : Inside) (from : PortId) (place : ℕ) (frames : List Frame) → IsOpenHere b from.0 place (can_send (before b).world frames) → Outcome
send_made b from place frames here = send_step (before b) frames here.port

pub send-made : (b : Inside) (from : PortId) (place : ℕ) (frames : List Frame) (here : IsOpenHere b from.0 place (can_send (before b).world frames))
    → step (before b) (Send from frames) ≡ Some (send_made b from place frames here)
send-made b from place frames here = rw (here.here.found, here.passes) refl

pub can-parts : (b : Inside) (from : PortId) (place : ℕ) (frames : List Frame) → (here : IsOpenHere b from.0 place (can_send (before b).world frames))
    → (is_switch_port_name here.port.name ≡ true) × (is_sendable frames ≡ true)
can-parts b from place frames here =
    let outer = and_parts (is_switch_port_name here.port.name) (is_settled (before b).world here.port.session && is_sendable frames) here.passes in
    let inner = and_parts (is_settled (before b).world here.port.session) (is_sendable frames) outer.1 in
    (outer.0, inner.1)

pub can-look_up : (frames : List Frame) → is_sendable frames ≡ true → All IsFrame frames
can-look_up frames can = (looked_up_sendable frames can).each

-- the open ports of the sender's switch
pub ids-are : (b : Inside) (switch : List ℕ) (ids : List PortId) → IsBook b → AreOpenOn switch b.ports.items ids → ids ≡ open_ports_on switch (before b).world.ports
ids-are b switch ids k are =
    let w = (before b).world in
    let x = (before b).holdings in
    let rising = ports-rising b.pool.buffers b.history.entries b k.stands in
    are (seats_of w.ports x.ports) rising.stand ∙ ap (λ (ports : List Port). open_ports_on switch ports) (seats-ports w.ports x.ports rising.agree)

pub ids-rise : (b : Inside) (switch : List ℕ) (ids : List PortId) → IsBook b → AreOpenOn switch b.ports.items ids → IsRising (map port_number ids)
ids-rise b switch ids k are = subst (λ (all : List PortId). IsRising (map port_number all)) (sym (ids-are b switch ids k are)) (open_ports_rise b.pool.buffers b.history.entries switch)

-- all that the call looked up
pub record IsSending (b : Inside) (from : PortId) (place : ℕ) (frames : List Frame) (ids : List PortId) (monitor : Option PortId) (session : SessionId) (at : ℕ) (table : NamedTable) : Type 0 where
  pub here : IsOpenHere b from.0 place (can_send (before b).world frames)
  pub whose : here.port.session ≡ session.0
  pub table_at : IsTableAt (before b).world here.port.name b.tables.items at table
  pub ids_are : ids ≡ open_ports_on (switch_of here.port.name) (before b).world.ports
  pub monitor_is : option_map port_number monitor ≡ transmit_monitor (before b).world here.port.id

monitor-is : (b : Inside) (from : PortId) (monitor : Option PortId) (id : ℕ) → IsBook b → monitor ≡ monitor_of b.watches from.0 Tx → id ≡ from.0
    → option_map port_number monitor ≡ transmit_monitor (before b).world id
monitor-is b from monitor id k is same =
    ap (option_map port_number) is ∙ (k.stands.parts_are.watches_are.transmit from.0 ∙ ap (transmit_monitor (before b).world) (sym same))

pub sending : (b : Inside) (from : PortId) (place : ℕ) (frames : List Frame) (ids : List PortId) (monitor : Option PortId) (session : SessionId) (at : ℕ) (table : NamedTable) → IsBook b
    → (here : IsOpenHere b from.0 place (can_send (before b).world frames)) → here.port.session ≡ session.0 → IsTableAt (before b).world here.port.name b.tables.items at table
    → AreOpenOn (switch_of here.port.name) b.ports.items ids → monitor ≡ monitor_of b.watches from.0 Tx
    → IsSending b from place frames ids monitor session at table
sending b from place frames ids monitor session at table k here whose table_at are is = record {
  here = here;
  whose = whose;
  table_at = table_at;
  ids_are = ids-are b (switch_of here.port.name) ids k are;
  monitor_is = monitor-is b from monitor here.port.id k is here.id_is;
}

-- ---- what is wanted and replied

abbrev wants_sent : (b : Inside) (from : PortId) (frames : List Frame) (port : Port) (entries : Entries) → List Wanted
wants_sent b from frames port entries = wants_monitored (transmit_monitor (before b).world port.id) frames (wants_at (before b).world from frames port entries)

wants-are : (b : Inside) (from : PortId) (place : ℕ) (frames : List Frame) (ids : List PortId) (monitor : Option PortId) (session : SessionId) (at : ℕ) (table : NamedTable)
    (s : IsSending b from place frames ids monitor session at table) → all_wants monitor frames (classed from table.table frames ids) ≡ wants_sent b from frames s.here.port table.table
wants-are b from place frames ids monitor session at table s = rw (s.monitor_is, s.ids_are) refl

sender-is : (b : Inside) (from : PortId) (place : ℕ) (frames : List Frame) (ids : List PortId) (monitor : Option PortId) (session : SessionId) (at : ℕ) (table : NamedTable)
    (s : IsSending b from place frames ids monitor session at table) → IsSender (before b).world from frames s.here.port table.table
sender-is b from place frames ids monitor session at table s = sender-at (before b).world from frames s.here.port b.tables.items at table s.table_at s.here.here.found s.here.passes

pub reply-sent : (b : Inside) (from : PortId) (place : ℕ) (frames : List Frame) (ids : List PortId) (monitor : Option PortId) (session : SessionId) (at : ℕ) (table : NamedTable) → IsBook b
    → (s : IsSending b from place frames ids monitor session at table)
    → (send_made b from place frames s.here).reply ≡ Offered (classed from table.table frames ids).short (classed from table.table frames ids).lone (dests_wanted (all_wants monitor frames (classed from table.table frames ids)))
reply-sent b from place frames ids monitor session at table k s =
    rw (s.monitor_is, s.ids_are) (sends_replied b.pool.buffers b.history.entries from frames s.here.port table.table k.stands.legal (sender-is b from place frames ids monitor session at table s))

pub room-sent : (b : Inside) (from : PortId) (place : ℕ) (frames : List Frame) (ids : List PortId) (monitor : Option PortId) (session : SessionId) (at : ℕ) (table : NamedTable) → IsBook b
    → (s : IsSending b from place frames ids monitor session at table) → (send_made b from place frames s.here).want ≡ send_room (all_wants monitor frames (classed from table.table frames ids))
room-sent b from place frames ids monitor session at table k s =
    let w = (before b).world in
    let offers = sent_offers b.pool.buffers b.history.entries from frames s.here.port table.table k.stands.legal (sender-is b from place frames ids monitor session at table s) in
    let dests = dests_are_wanted frames (wants_sent b from frames s.here.port table.table) (offers_of_send w s.here.port frames) offers in
    let same = wants-are b from place frames ids monitor session at table s in
    let count = ap (λ (wants : List Wanted). length (dests_wanted wants)) same ∙ ap (λ ds. length ds) dests in
    omega (arith, count)

abbrev session_id : ℕ → SessionId
session_id n = record { 0 = n }

entry-sent : (b : Inside) (from : PortId) (place : ℕ) (frames : List Frame) (ids : List PortId) (monitor : Option PortId) (session : SessionId) (at : ℕ) (table : NamedTable) → IsBook b
    → (s : IsSending b from place frames ids monitor session at table)
    → send_entry session from frames (classed from table.table frames ids) (all_wants monitor frames (classed from table.table frames ids)) ≡ entry_of (Send from frames) (send_made b from place frames s.here)
entry-sent b from place frames ids monitor session at table k s =
    let id : session ≡ session_id s.here.port.session = ap session_id (sym s.whose) in
    ap (λ (i : SessionId). send_entry i from frames (classed from table.table frames ids) (all_wants monitor frames (classed from table.table frames ids))) id
    ∙ ap (λ (r : Reply). let e : Entry = record { session = session_id s.here.port.session; ask = Send from frames; reply = r } in e) (sym (reply-sent b from place frames ids monitor session at table k s))

-- ---- the step

pub send-moves : (b next : Inside) (from : PortId) (place : ℕ) (frames : List Frame) (ids : List PortId) (monitor : Option PortId) (session : SessionId) (at : ℕ) (table : NamedTable) → IsBook b
    → (s : IsSending b from place frames ids monitor session at table)
    → next.history.entries ≡ b.history.entries ++ send_entry session from frames (classed from table.table frames ids) (all_wants monitor frames (classed from table.table frames ids)) ∷ []
    → next.history.promised + 1 ≡ b.history.promised + send_room (all_wants monitor frames (classed from table.table frames ids)) → next.history.limits ≡ b.history.limits
    → Fits b.history (send_room (all_wants monitor frames (classed from table.table frames ids))) (bytes_of_frames frames)
    → next.tables.items ≡ slice_set b.tables.items at (record table { table = learned_of_batch from table.table frames })
    → next.tally ≡ tally_after_add from.0 (sent_counts (length frames) (classed from table.table frames ids).short (classed from table.table frames ids).lone) b.tally
    → next.sessions.items ≡ b.sessions.items → next.ports.items ≡ b.ports.items → parts_in next ≡ record (parts_in b) { tables = map table_seen next.tables.items; tally = next.tally }
    → next.pool ≡ b.pool → next.region ≡ b.region → next.buffers ≡ b.buffers
    → Moves b next (Send from frames) (send_made b from place frames s.here)
send-moves b next from place frames ids monitor session at table k s entries promised limits fits tables tally sessions ports parts pool region buffers =
    let w = (before b).world in
    let made = send_made b from place frames s.here in
    let room = room-sent b from place frames ids monitor session at table k s in
    let reply = reply-sent b from place frames ids monitor session at table k s in
    let taught : map table_seen next.tables.items ≡ tables_after w (Send from frames) (map table_seen b.tables.items) =
    sends-teach_at w from frames s.here.port b.tables.items next.tables.items at table k.stands.parts_are.tables_are s.table_at s.here.here.found s.here.passes tables in
    let counted : next.tally ≡ tally_after_add from.0 (count_sent frames made.reply) b.tally =
    tally ∙ ap (λ (r : Reply). tally_after_add from.0 (count_sent frames r) b.tally) (sym reply) in
    let fitting : Fits b.history made.want (bytes_of_frames frames) = subst (λ (n : ℕ). Fits b.history n (bytes_of_frames frames)) (sym room) fits in
    record {
      step_is = send-made b from place frames s.here;
      entries = entries ∙ ap (λ (e : Entry). b.history.entries ++ e ∷ []) (entry-sent b from place frames ids monitor session at table k s);
      limits = limits;
      promised = omega (arith, promised, room);
      room = fits-step b (Send from frames) made k fitting;
      sessions = ap (map number_of_session) sessions ∙ k.stands.sessions_are;
      ports = rw ports k.stands.ports_are;
      parts = subst (ArePartsAfter w (before b).holdings (Send from frames) made.reply (parts_in b)) (sym parts) (record {
        names_next = refl;
        tables_wanted = tt;
        tables_next = taught;
        watches_next = λ port. refl;
        tally_next = counted;
        free_next = refl;
      });
      region = region;
      buffers = buffers;
      free_are = subst (λ (p : PoolState). AreOf b.region.region p.free) (sym pool) k.free_are;
      lines_are = rw ports k.lines_are;
    }

-- ---- the call

-- what the call looked up, as its parts tell it
pub send-at : (b : Inside) (from : PortId) (place : ℕ) (frames : List Frame) (ids : List PortId) (monitor : Option PortId) (session : SessionId) (name : List ℕ) (at : ℕ) (table : NamedTable) → IsBook b
    → is_met (can_send (before b).world frames) (open_port (before b).world.ports from.0) ≡ true → IsFoundAt (open_at from.0) b.ports.items place
    → OfState (λ (p : PortState). session.0 ≡ p.session) b.ports.items place → OfState (λ (p : PortState). name ≡ p.name) b.ports.items place
    → position (is_for_switch (switch_of name)) b.tables.items ≡ Some at → table ≡ get_or b.tables.items at table
    → AreOpenOn (switch_of name) b.ports.items ids → monitor ≡ monitor_of b.watches from.0 Tx
    → IsSending b from place frames ids monitor session at table
send-at b from place frames ids monitor session name at table k can found whose named there is open' watched =
    let here = open-here b from.0 place (can_send (before b).world frames) k found can in
    let same : name ≡ here.port.name = named here.here.at.state here.here.at.state_here ∙ here.here.at.is_seat.name in
    sending b from place frames ids monitor session at table k here (session-here b from.0 place (can_send (before b).world frames) here session whose)
    (table-at (before b).world here.port.name b.tables.items at table k.stands.parts_are.tables_are (subst (λ (n : List ℕ). position (is_for_switch (switch_of n)) b.tables.items ≡ Some at) same there) is)
    (subst (λ (n : List ℕ). AreOpenOn (switch_of n) b.ports.items ids) same open') watched

-- the table is there
pub send-table : (b : Inside) (from : PortId) (place : ℕ) (frames : List Frame) (name : List ℕ) → IsBook b
    → is_met (can_send (before b).world frames) (open_port (before b).world.ports from.0) ≡ true → IsFoundAt (open_at from.0) b.ports.items place
    → OfState (λ (p : PortState). name ≡ p.name) b.ports.items place → position (is_for_switch (switch_of name)) b.tables.items ≡ None → ⊥
send-table b from place frames name k can found named none =
    let here = open-here b from.0 place (can_send (before b).world frames) k found can in
    let same : name ≡ here.port.name = named here.here.at.state here.here.at.state_here ∙ here.here.at.is_seat.name in
    let has = table-found (before b).world here.port place b.tables.items k.stands.parts_are.tables_are here.here.at.here (can-parts b from place frames here).0 in
    let missing : position (is_for_switch (switch_of here.port.name)) b.tables.items ≡ None = subst (λ (n : List ℕ). position (is_for_switch (switch_of n)) b.tables.items ≡ None) same none in
    let wrong : Some has.place ≡ None = sym has.found ∙ missing in
    absurd cc

pub sender-counted : (b : Inside) (from : PortId) (place : ℕ) (frames : List Frame) → IsBook b → IsOpenHere b from.0 place (can_send (before b).world frames) → IsSome (counts_of b.tally from.0)
sender-counted b from place frames k here = rw (open_counted b.pool.buffers b.history.entries b.tally from.0 here.port k.stands.legal k.stands.parts_are.counts_are here.here.found) refl

follows-sent : (b : Inside) (from : PortId) (place : ℕ) (frames : List Frame) (here : IsOpenHere b from.0 place (can_send (before b).world frames))
    → Follows (before b) (entry_of (Send from frames) (send_made b from place frames here))
follows-sent b from place frames here = ap (option_map session_and_reply) (send-made b from place frames here)

pub sent-counts-fit : (b : Inside) (from : PortId) (place : ℕ) (frames : List Frame) (ids : List PortId) (monitor : Option PortId) (session : SessionId) (at : ℕ) (table : NamedTable) → IsBook b
    → (s : IsSending b from place frames ids monitor session at table) → FitsIn b.tally from.0 (sent_counts (length frames) (classed from table.table frames ids).short (classed from table.table frames ids).lone)
sent-counts-fit b from place frames ids monitor session at table k s =
    let fits = additions_fit b.pool.buffers b.history.entries (entry_of (Send from frames) (send_made b from place frames s.here)) b.tally k.pool_fits.1 k.stands.legal
    (follows-sent b from place frames s.here) (entries-few b k) k.stands.parts_are.counts_are in
    subst (λ (r : Reply). FitsIn b.tally from.0 (count_sent frames r)) (reply-sent b from place frames ids monitor session at table k s) fits

-- offers of these frames, all by one session
record OffersStandWith (s : Standing) (o : OffersState) (frames : List Frame) : Type 0 where
  are : OffersAre s.world o.entry frames o.wants
  by : Each (IsOfferBy o.session) (offers_at s.world o.entry)

begun-by : (b : Inside) (from : PortId) (place : ℕ) (frames : List Frame) (session : SessionId) (here : IsOpenHere b from.0 place (can_send (before b).world frames)) → here.port.session ≡ session.0
    → Each (IsOfferBy session.0) (offers_started (before b).world (Send from frames) (send_made b from place frames here).reply)
begun-by b from place frames session here whose =
    let w = (before b).world in
    let each : Each (IsOfferBy session.0) (offers_of_send w here.port frames) =
    each-offers_of (IsOfferBy session.0) (w.entry_count + 1) here.port.session _ (λ at frames. whose) w.ports in
    rw here.here.found each

-- the offers of the call are those that stand once it is made
pub sent-stand : (b next : Inside) (from : PortId) (place : ℕ) (frames : List Frame) (ids : List PortId) (monitor : Option PortId) (session : SessionId) (at : ℕ) (table : NamedTable) (offers : OffersState) → IsBook b
    → (s : IsSending b from place frames ids monitor session at table) → next.pool ≡ b.pool
    → next.history.entries ≡ b.history.entries ++ send_entry session from frames (classed from table.table frames ids) (all_wants monitor frames (classed from table.table frames ids)) ∷ []
    → offers ≡ send_offers (length b.history.entries + 1) session (classed from table.table frames ids) (all_wants monitor frames (classed from table.table frames ids))
    → IsSent (recorded next) frames offers
sent-stand b next from place frames ids monitor session at table offers k s pool entries is =
    let n = b.pool.buffers in
    let h = b.history.entries in
    let w = (before b).world in
    let entry = entry_of (Send from frames) (send_made b from place frames s.here) in
    let same = entry-sent b from place frames ids monitor session at table k s in
    let follows = follows-sent b from place frames s.here in
    let count = count-world_of n h in
    let wants = wants-are b from place frames ids monitor session at table s in
    let started = sends_start n h entry from frames s.here.port table.table k.stands.legal follows refl (sender-is b from place frames ids monitor session at table s) in
    let begun = offers_start n h entry follows in
    let by : Each (IsOfferBy session.0) (offers_at (world_of n (h ++ entry ∷ [])) (w.entry_count + 1)) =
    subst (Each (IsOfferBy session.0)) (sym begun) (begun-by b from place frames session s.here s.whose) in
    let stands : OffersStandWith (standing_of n (h ++ entry ∷ [])) (send_offers (length h + 1) session (classed from table.table frames ids) (all_wants monitor frames (classed from table.table frames ids))) frames = record {
      are = subst (λ (m : ℕ). OffersAre (world_of n (h ++ entry ∷ [])) m frames (all_wants monitor frames (classed from table.table frames ids))) (ap (λ (m : ℕ). m + 1) count)
          (subst (OffersAre (world_of n (h ++ entry ∷ [])) (w.entry_count + 1) frames) (sym wants) started);
      by = subst (λ (m : ℕ). Each (IsOfferBy session.0) (offers_at (world_of n (h ++ entry ∷ [])) m)) (ap (λ (m : ℕ). m + 1) count) by;
    } in
    let grown : next.history.entries ≡ h ++ entry ∷ [] = entries ∙ ap (λ (e : Entry). h ++ e ∷ []) same in
    let size : next.pool.buffers ≡ n = ap (λ (p : PoolState). p.buffers) pool in
    let here : standing (recorded next) ≡ standing_of n (h ++ entry ∷ []) = rw (grown, size) refl in
    let all = subst (λ (o : OffersState). OffersStandWith (standing (recorded next)) o frames) (sym is) (subst (λ (t : Standing). OffersStandWith t (send_offers (length h + 1) session (classed from table.table frames ids) (all_wants monitor frames (classed from table.table frames ids))) frames) (sym here) stands) in
    let length_is : length (recorded next).entries ≡ length h + 1 = ap (λ (l : List Entry). length l) grown ∙ length-append h (entry ∷ []) in
    record {
      entry = ap (λ (o : OffersState). o.entry) is ∙ sym length_is;
      stand = record { frames = frames; are = all.are; by = all.by };
      frames_are = refl;
    }

-- a table that is as it was
pub table-same : (tables : List NamedTable) (at : ℕ) (table : NamedTable) (entries : Entries) → table ≡ get_or tables at table → entries ≡ table.table
    → slice_set tables at (record table { table = entries }) ≡ tables
table-same tables at table entries is same =
    ap (λ (e : Entries). slice_set tables at (record table { table = e })) same ∙ (ap (λ (t : NamedTable). slice_set tables at t) is ∙ set-get_or tables at table)

pub full-sent : (b : Inside) (from : PortId) (place : ℕ) (frames : List Frame) (ids : List PortId) (monitor : Option PortId) (session : SessionId) (at : ℕ) (table : NamedTable) (fault : StepFault) → IsBook b
    → (s : IsSending b from place frames ids monitor session at table) → IsFull b.history (send_room (all_wants monitor frames (classed from table.table frames ids))) (bytes_of_frames frames) fault
    → IsRefusal (recorded b) (Send from frames) fault
full-sent b from place frames ids monitor session at table fault k s full =
    full-step b (Send from frames) (send_made b from place frames s.here) fault k (send-made b from place frames s.here)
    (subst (λ (n : ℕ). IsFull b.history n (bytes_of_frames frames) fault) (sym (room-sent b from place frames ids monitor session at table k s)) full)

pub said-sent : (b : Inside) (from : PortId) (place : ℕ) (frames : List Frame) (ids : List PortId) (monitor : Option PortId) (session : SessionId) (at : ℕ) (table : NamedTable) (number : ℕ) (offers : OffersState) → IsBook b
    → (s : IsSending b from place frames ids monitor session at table) → offers ≡ send_offers number session (classed from table.table frames ids) (all_wants monitor frames (classed from table.table frames ids))
    → option_map reply_of (step (before b) (Send from frames)) ≡ Some (Offered offers.short offers.lone (dests_wanted offers.wants))
said-sent b from place frames ids monitor session at table number offers k s is =
    ap (option_map reply_of) (send-made b from place frames s.here)
    ∙ (ap (λ (r : Reply). Some r) (reply-sent b from place frames ids monitor session at table k s) ∙ ap (λ (o : OffersState). Some (Offered o.short o.lone (dests_wanted o.wants))) (sym is))

pub counts-fit_offers : (b : Inside) (from : PortId) (place : ℕ) (frames : List Frame) (ids : List PortId) (monitor : Option PortId) (session : SessionId) (at : ℕ) (table : NamedTable) (number count : ℕ) (offers : OffersState) → IsBook b
    → (s : IsSending b from place frames ids monitor session at table) → offers ≡ send_offers number session (classed from table.table frames ids) (all_wants monitor frames (classed from table.table frames ids))
    → count ≡ length frames → FitsIn b.tally from.0 (sent_counts count offers.short offers.lone)
counts-fit_offers b from place frames ids monitor session at table number count offers k s is size =
    subst (λ (n : ℕ). FitsIn b.tally from.0 (sent_counts n offers.short offers.lone)) (sym size)
    (subst (λ (o : OffersState). FitsIn b.tally from.0 (sent_counts (length frames) o.short o.lone)) (sym is) (sent-counts-fit b from place frames ids monitor session at table k s))
