-- What a sync and a get make of a book.
use Rattle.std.proofs.Common.{ℕ, Bool, true, false, ◌≡◌, ◌≤◌, ◌+◌, nat_le, List, [], ◌∷◌, ◌++◌, length, slice_set, Option, Some, None, is_some, Result, Ok, Err, OnOk, OnErr, IfOk, refl, sym, ◌∙◌, ap, subst, arith}
use Rattle.std.specs.Prelude.{IsSome}
use Rattle.std.specs.Option.{ForSome, option_map_or}
use Rattle.std.specs.List.{AllByRecursion as Each}
use Rattle.std.proofs.lemmas.Bool.{and_parts, leb-true}
use Rattle.std.proofs.lemmas.List.{length-map}
use Rattle.nm_types.specs.declared.id.PortId.{PortId}
use Rattle.nm_types.specs.declared.id.Counts.{Counts}
use Rattle.nm_types.specs.declared.id.SessionId.{SessionId}
use Rattle.nm_types.specs.declared.id.Side.TheVariants.{Rx}
use Rattle.nm_types.specs.declared.fault.StepFault.{StepFault}
use Rattle.nm_types.specs.Counters.{SumFits}
use Rattle.nm_types.specs.Frames.{slots_of}
use Rattle.nm_types.proofs.Sizes.{length-size}
use Rattle.nm_region.specs.Buffers.{Buffer, indices_of}
use Rattle.nm_count.specs.Tallies.{counts_of, tally_after_add}
use Rattle.nm_watch.specs.Watching.{monitor_of}
use Rattle.vale_line.specs.declared.got.Got.{Got}
use Rattle.vale_line.specs.Gots.{buffers_of}
use Rattle.vale_line.specs.Lines.{out_of, ready_gots, given_by_sync}
use Rattle.vale_entry.specs.declared.entry.Ask.{Ask}
use Rattle.vale_entry.specs.declared.entry.Reply.{Reply}
use Rattle.vale_entry.specs.declared.entry.Reply.TheVariants.{Gave}
use Rattle.vale_entry.specs.declared.entry.Dest.{Dest}
use Rattle.vale_entry.specs.declared.entry.Entry.{Entry}
use Rattle.vale_entry.specs.World.{Port, open_port, receive_monitor}
use Rattle.vale_entry.specs.Delivery.{ready_lots, delivered_frames, port_after_sync}
use Rattle.vale_entry.specs.Holdings.{with_returned, delivered_buffers}
use Rattle.vale_entry.specs.Legal.{Standing, Outcome, step, is_met, can_sync, can_get, can_receive, sync_step, offers_of_sync, room_of_dests, IsEnabled, Follows, world_of, kept_ask}
use Rattle.vale_entry.specs.Offers.{dests_of, monitored_frames}
use Rattle.vale_entry.specs.Room.{bytes_of}
use Rattle.vale_entry.specs.Stored.{Fits, IsFull}
use Rattle.vale_entry.proofs.Worlds.{count-world_of}
use Rattle.vale_entry.proofs.HistoryPlaces.{delivered_buffers-world}
use Rattle.vale_entry.proofs.ListLaws.{each-at, each-set}
use Rattle.vale_port.specs.Laws.{with_line}
use Rattle.vale_port.specs.Lists.{IsFoundAt, IsNotFound, ChangesSeat, OfSeat, OfState}
use Rattle.vale_port.specs.Ports.{PortState, Gives}
use Rattle.vale_port.specs.Seat.{Seat, seats_of, seat_synced}
use Rattle.vale_port.proofs.LineTies.{length-indices, some-same}
use Rattle.vale_port.proofs.Lists.{seats-at}
use Rattle.vale_port.proofs.Places.{seat_change_is_change}
use Rattle.vale_port.proofs.SeatTies.{sum-sizes}
use Rattle.vale_parts.specs.Adding.{AddsFit}
use Rattle.vale_parts.specs.Batches.{wants_monitored, dests_wanted}
use Rattle.vale_parts.specs.Ids.{id_of}
use Rattle.vale_parts.specs.OfferLaws.{ReadsAt}
use Rattle.vale_parts.specs.OfferLaws.ReadsAt.{syncs, gets}
use Rattle.vale_parts.specs.Offering.{OffersAre, offers_at, offers_started}
use Rattle.vale_parts.specs.Parts.{Parts, ArePartsAfter}
use Rattle.vale_parts.proofs.AllParts.{tables_stay}
use Rattle.vale_parts.proofs.Additions.{additions_fit}
use Rattle.vale_parts.proofs.BatchWants.{reads_replied}
use Rattle.vale_parts.proofs.CountsKept.{open_counted}
use Rattle.vale_parts.proofs.OffersKept.{reads_start, offers_start}
use Rattle.vale_book.specs.declared.book.Book.TheInside.{Inside}
use Rattle.vale_steps.specs.declared.reading.Reading.{Reading}
use Rattle.vale_steps.specs.declared.reading.Synced.{Synced}
use Rattle.nm_region.specs.Regions.{AreOf}
use Rattle.vale_book.specs.BookView.{recorded, parts_in, HasBuffersOf, IsBook}
use Rattle.vale_steps.specs.Monitored.{offers_to, room_of_wants}
use Rattle.vale_steps.specs.Offering.{OffersState, IsOfferBy}
use Rattle.vale_steps.specs.Reading.{read_ask, wants_read, read_entry, count_read}
use Rattle.vale_steps.specs.Wanting.{AreSmall, sizes_for}
use Rattle.vale_book.specs.Reading.{IsGivenOf, IsOfferedOf}
use Rattle.vale_own.specs.Recorded.{entry_of, IsRefusal}
use Rattle.vale_steps.proofs.ReadBytes.{no-bytes}
use Rattle.vale_book.proofs.Found.{open_at, open-here, never-missing as never-closed}
use Rattle.vale_steps.proofs.MonitoredWants.{wants-monitored}
use Rattle.vale_book.proofs.Moves.{Moves, Stays, before, fits-step, full-step, entries-few}
use Rattle.vale_book.proofs.OfferedTo.{by-session, StandOffered, offered-to}
use Rattle.vale_own.proofs.Rooms.{step-recorded}
use Rattle.vale_book.proofs.Standing.{IsHere, ports-rising}
use Rattle.vale_book.proofs.PortLines.{of-synced, of-given}
use Rattle.vale_book.proofs.RingSizes.{delivered-few}

-- ---- the two asks

kept-read : (pipe : Bool) (at : PortId) (back : List ℕ) → kept_ask (read_ask pipe at back) ≡ read_ask pipe at back
kept-read true at back = refl
kept-read false at back = refl

reads-at : (pipe : Bool) (at : PortId) (back : List ℕ) → ReadsAt at back (read_ask pipe at back)
reads-at true at back = gets
reads-at false at back = syncs

abbrev can_read : Bool → Standing → List ℕ → Port → Bool
can_read true s back port = can_get s back port
can_read false s back port = can_sync s back port

met-read : (pipe : Bool) (s : Standing) (at : PortId) (back : List ℕ) → IsEnabled s (read_ask pipe at back) → is_met (can_read pipe s back) (open_port s.world.ports at.0) ≡ true
met-read true s at back enabled = enabled
met-read false s at back enabled = enabled

receives : (pipe : Bool) (s : Standing) (back : List ℕ) (port : Port) → can_read pipe s back port ≡ true → can_receive s back port ≡ true
receives true s back port can = (and_parts _ (can_receive s back port) can).1
receives false s back port can = (and_parts _ (can_receive s back port) can).1

few-back : (pipe : Bool) (s : Standing) (back : List ℕ) (port : Port) → can_read pipe s back port ≡ true → length back ≤ port.out
few-back pipe s back port can =
    leb-true (length back) port.out (and_parts (nat_le (length back) port.out) _ (and_parts _ _ (receives pipe s back port can)).1).0

step-read : (pipe : Bool) (s : Standing) (at : PortId) (back : List ℕ) (port : Port) → open_port s.world.ports at.0 ≡ Some port → can_read pipe s back port ≡ true
    → step s (read_ask pipe at back) ≡ Some (sync_step s back port)
step-read true s at back port here can = rw (here, can) refl
step-read false s at back port here can = rw (here, can) refl

-- ---- one that is enabled, at the place of its port

pub record IsReadAt (b : Inside) (pipe : Bool) (at : PortId) (back : List ℕ) (place : ℕ) : Type 0 where
  pub port : Port
  pub here : IsHere b.pool.buffers b.history.entries b (open_at at.0) place port
  pub id_is : port.id ≡ at.0
  pub few : length back ≤ port.out
  pub step_is : step (before b) (read_ask pipe at back) ≡ Some (sync_step (before b) back port)

pub read-at : (b : Inside) (pipe : Bool) (at : PortId) (back : List ℕ) (place : ℕ) → IsBook b → IsEnabled (before b) (read_ask pipe at back) → IsFoundAt (open_at at.0) b.ports.items place
    → IsReadAt b pipe at back place
read-at b pipe at back place k enabled found =
    let s = before b in
    let here = open-here b at.0 place (can_read pipe s back) k found (met-read pipe s at back enabled) in
    record {
      port = here.port;
      here = here.here;
      id_is = here.id_is;
      few = few-back pipe s back here.port here.passes;
      step_is = step-read pipe s at back here.port here.here.found here.passes;
    }

pub never-missing : (b : Inside) (pipe : Bool) (at : PortId) (back : List ℕ) → IsBook b → IsEnabled (before b) (read_ask pipe at back) → IsNotFound (open_at at.0) b.ports.items → ⊥
never-missing b pipe at back k enabled none = never-closed b at.0 (can_read pipe (before b) back) k none (met-read pipe (before b) at back enabled)

pub returned : (b : Inside) (pipe : Bool) (at : PortId) (back : List Buffer) (place : ℕ) → IsReadAt b pipe at (indices_of back) place
    → OfState (λ (p : PortState). length back ≤ out_of p.line) b.ports.items place
returned b pipe at back place r = λ p is.
    let same : p ≡ r.here.at.state = cc (is, r.here.at.state_here) in
    let few = r.few in
    let count = length-indices back in
    let out : out_of p.line ≡ r.port.out = ap (λ (q : PortState). out_of q.line) same ∙ r.here.at.is_seat.out in
    omega (arith, few, count, out)

-- ---- what is known of it is what the world says

pub record IsAsked (b : Inside) (r : Reading) (back : List ℕ) : Type 0 where
  pub at : IsReadAt b r.is_pipe r.at back r.place
  pub session : at.port.session ≡ r.session.0
  pub frames : r.frames ≡ length (delivered_frames at.port)
  pub monitor : id_of r.monitor ≡ receive_monitor (before b).world at.port.id

-- and so is what is wanted of the frames of these sizes
pub record IsReading (b : Inside) (r : Reading) (sizes back : List ℕ) : Type 0 where
  pub at : IsReadAt b r.is_pipe r.at back r.place
  pub session : at.port.session ≡ r.session.0
  pub frames : r.frames ≡ length (delivered_frames at.port)
  pub wants : wants_read r sizes ≡ wants_monitored (receive_monitor (before b).world at.port.id) (delivered_frames at.port) []

-- what a seat says, the port at the place says
at-place : (b : Inside) (P : Port → Type 0) (pipe : Bool) (at : PortId) (back : List ℕ) (place : ℕ) → IsBook b → (r : IsReadAt b pipe at back place)
    → OfSeat (λ (seat : Seat). P seat.port) b.ports.items place → P r.port
at-place b P pipe at back place k r says =
    let w = (before b).world in
    let x = (before b).holdings in
    let here = r.here.at in
    says (seats_of w.ports x.ports) (record { port = r.port; held = here.held }) k.stands.ports_are (seats-at w.ports x.ports place r.port here.held here.here here.held_here)

pub reading-is : (b : Inside) (r : Reading) (back : List ℕ) → IsBook b → (at : IsReadAt b r.is_pipe r.at back r.place)
    → OfState (λ (p : PortState). r.session.0 ≡ p.session) b.ports.items r.place
    → OfSeat (λ (seat : Seat). r.frames ≡ length (delivered_frames seat.port)) b.ports.items r.place
    → r.monitor ≡ monitor_of b.watches r.at.0 Rx → IsAsked b r back
reading-is b r back k at session frames monitor =
    let here = at.here.at in
    record {
      at = at;
      session = sym (session here.state here.state_here ∙ here.is_seat.session);
      frames = at-place b (λ (p : Port). r.frames ≡ length (delivered_frames p)) r.is_pipe r.at back r.place k at frames;
      monitor = ap id_of monitor ∙ (k.stands.parts_are.watches_are.receive r.at.0 ∙ ap (receive_monitor (before b).world) (sym at.id_is));
    }

-- as it is read of a book
pub read-known : (b : Inside) (r : Reading) (pipe : Bool) (at : PortId) (back : List ℕ) (place : ℕ) (ports ports' : List PortState) → IsBook b → IsEnabled (before b) (read_ask pipe at back)
    → ports ≡ b.ports.items → ports' ≡ b.ports.items → IsFoundAt (open_at at.0) ports place → r.at ≡ at → r.place ≡ place → r.is_pipe ≡ pipe
    → OfState (λ (p : PortState). r.session.0 ≡ p.session) ports' place
    → OfSeat (λ (seat : Seat). r.frames ≡ length (delivered_frames seat.port)) ports' place → r.monitor ≡ monitor_of b.watches at.0 Rx → IsAsked b r back
read-known b r pipe at back place ports ports' k enabled same same' found one two three session frames monitor =
    let here : IsReadAt b r.is_pipe r.at back r.place = rw (one, two, three) (read-at b pipe at back place k enabled (subst (λ (ps : List PortState). IsFoundAt (open_at at.0) ps place) same found)) in
    reading-is b r back k here (rw two (subst (λ (ps : List PortState). OfState (λ (p : PortState). r.session.0 ≡ p.session) ps place) same' session))
    (rw two (subst (λ (ps : List PortState). OfSeat (λ (seat : Seat). r.frames ≡ length (delivered_frames seat.port)) ps place) same' frames)) (rw one monitor)

-- the sizes of what is ready, if there is a monitor
abbrev pub AreSizes : Reading → List ℕ → List PortState → Type 0
AreSizes r sizes ps = OfSeat (λ (seat : Seat). sizes ≡ sizes_for r.monitor (delivered_frames seat.port)) ps r.place

pub sized : (b : Inside) (r : Reading) (sizes back : List ℕ) (ports : List PortState) → IsBook b → ports ≡ b.ports.items → IsAsked b r back → AreSizes r sizes ports → IsReading b r sizes back
sized b r sizes back ports k same asked are =
    let told = at-place b (λ (p : Port). sizes ≡ sizes_for r.monitor (delivered_frames p)) r.is_pipe r.at back r.place k asked.at (subst (AreSizes r sizes) same are) in
    record {
      at = asked.at;
      session = asked.session;
      frames = asked.frames;
      wants = wants-monitored r.monitor (delivered_frames asked.at.port) sizes (receive_monitor (before b).world asked.at.port.id) told asked.monitor;
    }

-- they are few, since a ring has few slots
pub sizes-small : (b : Inside) (r : Reading) (sizes back : List ℕ) (ports : List PortState) → IsBook b → ports ≡ b.ports.items → IsAsked b r back → AreSizes r sizes ports → AreSmall sizes
sizes-small b r sizes back ports k same asked are =
    let told = at-place b (λ (p : Port). sizes ≡ sizes_for r.monitor (delivered_frames p)) r.is_pipe r.at back r.place k asked.at (subst (AreSizes r sizes) same are) in
    subst AreSmall (sym told) (by r.monitor)
  where
    by : (monitor : Option PortId) → AreSmall (sizes_for monitor (delivered_frames asked.at.port))
    by None = record { count = omega arith; slots = omega arith }
    by (Some to) =
        let few = delivered-few b.pool.buffers b.history.entries r.place asked.at.port k.stands.legal asked.at.here.at.here in
        let least = length-size (delivered_frames asked.at.port) in
        let count = length-map (delivered_frames asked.at.port) slots_of in
        let slots = sum-sizes (delivered_frames asked.at.port) in
        record { count = omega (arith, few, least, count); slots = omega (arith, few, slots) }

dests-are : (b : Inside) (r : Reading) (sizes back : List ℕ) → IsBook b → (is : IsReading b r sizes back) → dests_of (offers_of_sync (before b).world is.at.port) ≡ dests_wanted (wants_read r sizes)
dests-are b r sizes back k is = reads_replied b.pool.buffers b.history.entries is.at.port k.stands.legal ∙ ap dests_wanted (sym is.wants)

abbrev pub read_made : (b : Inside) (r : Reading) (sizes back : List ℕ) → IsReading b r sizes back → Outcome
read_made b r sizes back is = sync_step (before b) back is.at.port

entry-by : (session : ℕ) (id : SessionId) (ask ask' : Ask) (count count' : ℕ) (to to' : List Dest) → session ≡ id.0 → ask ≡ ask' → count' ≡ count → to ≡ to'
    → (let e : Entry = record { session = record { 0 = session }; ask = ask; reply = Gave count to } in e) ≡ record { session = id; ask = ask'; reply = Gave count' to' }
entry-by session id ask ask' count count' to to' one two three four = rw (one, two, three, four) refl

pub entry-is : (b : Inside) (r : Reading) (sizes back : List ℕ) → IsBook b → (is : IsReading b r sizes back) → entry_of (read_ask r.is_pipe r.at back) (read_made b r sizes back is) ≡ read_entry r sizes back
entry-is b r sizes back k is =
    entry-by is.at.port.session r.session (kept_ask (read_ask r.is_pipe r.at back)) (read_ask r.is_pipe r.at back) (length (delivered_frames is.at.port)) r.frames
    (dests_of (offers_of_sync (before b).world is.at.port)) (dests_wanted (wants_read r sizes)) is.session (kept-read r.is_pipe r.at back) is.frames (dests-are b r sizes back k is)

want-is : (b : Inside) (r : Reading) (sizes back : List ℕ) → IsBook b → (is : IsReading b r sizes back) → (read_made b r sizes back is).want ≡ room_of_wants (wants_read r sizes)
want-is b r sizes back k is = ap room_of_dests (dests-are b r sizes back k is)

follows-read : (b : Inside) (r : Reading) (sizes back : List ℕ) → IsBook b → IsReading b r sizes back → Follows (before b) (read_entry r sizes back)
follows-read b r sizes back k is =
    let made = read_made b r sizes back is in
    let follows : Follows (before b) (entry_of (read_ask r.is_pipe r.at back) made) = rw (step-recorded (before b) (read_ask r.is_pipe r.at back) made is.at.step_is) refl in
    subst (Follows (before b)) (entry-is b r sizes back k is) follows

-- ---- what it counts fits

fits-by : (pipe : Bool) (w : _) (at : PortId) (back : List ℕ) (count : ℕ) (to : List Dest) (tally : _) → AddsFit w (read_ask pipe at back) (Gave count to) tally
    → ForSome (counts_of tally at.0) (λ (counts : Counts). SumFits counts (count_read count))
fits-by true w at back count to tally fits = fits
fits-by false w at back count to tally fits = fits

pub count-fits : (b : Inside) (r : Reading) (sizes back : List ℕ) → IsBook b → IsReading b r sizes back
    → ForSome (counts_of b.tally r.at.0) (λ (counts : Counts). SumFits counts (count_read r.frames))
count-fits b r sizes back k is =
    fits-by r.is_pipe (before b).world r.at back r.frames (dests_wanted (wants_read r sizes)) b.tally
    (additions_fit b.pool.buffers b.history.entries (read_entry r sizes back) b.tally k.pool_fits.1 k.stands.legal (follows-read b r sizes back k is) (entries-few b k) k.stands.parts_are.counts_are)

pub is-counted : (b : Inside) (r : Reading) (sizes back : List ℕ) → IsBook b → IsReading b r sizes back → IsSome (counts_of b.tally r.at.0)
is-counted b r sizes back k is =
    let told = open_counted b.pool.buffers b.history.entries b.tally r.at.0 is.at.port k.stands.legal k.stands.parts_are.counts_are is.at.here.found in
    ap (λ (found : Option Counts). is_some found) told

-- ---- the step

parts-read : (pipe : Bool) (s : Standing) (at : PortId) (back : List ℕ) (count : ℕ) (to : List Dest) (parts : Parts)
    → ArePartsAfter s.world s.holdings (read_ask pipe at back) (Gave count to) parts (record parts { tally = tally_after_add at.0 (count_read count) parts.tally })
parts-read true s at back count to parts = record { names_next = refl; tables_wanted = tt; tables_next = sym (tables_stay s.world (read_ask true at back) parts.tables refl); watches_next = λ port. refl; tally_next = refl; free_next = refl }
parts-read false s at back count to parts = record { names_next = refl; tables_wanted = tt; tables_next = sym (tables_stay s.world (read_ask false at back) parts.tables refl); watches_next = λ port. refl; tally_next = refl; free_next = refl }

-- all but the record, the ports and the tally is as it was
pub record IsRest (b next : Inside) : Type 0 where
  pub sessions : next.sessions.items ≡ b.sessions.items
  pub parts : parts_in next ≡ record (parts_in b) { tally = next.tally }
  pub region : next.region ≡ b.region
  pub buffers : next.buffers ≡ b.buffers

pub read-moves : {A E : Type 0} (made : Result A E) (b next : Inside) (r : Reading) (sizes : List ℕ) (back : List Buffer) → IsBook b → (is : IsReading b r sizes (indices_of back)) → AreOf b.region.region back
    → OnOk made (next.history.entries ≡ b.history.entries ++ read_entry r sizes (indices_of back) ∷ []) → OnOk made (next.history.promised + 1 ≡ b.history.promised + room_of_wants (wants_read r sizes))
    → next.history.limits ≡ b.history.limits → OnOk made (Fits b.history (room_of_wants (wants_read r sizes)) 0)
    → OnOk made (ChangesSeat (seat_synced (indices_of back)) b.ports.items r.place next.ports.items)
    → OnOk made (OfState (λ (p : PortState). next.ports.items ≡ slice_set b.ports.items r.place (with_line (given_by_sync back p.line) p)) b.ports.items r.place)
    → OnOk made (next.tally ≡ tally_after_add r.at.0 (count_read r.frames) b.tally) → IsRest b next
    → OnOk made (Moves b next (read_ask r.is_pipe r.at (indices_of back)) (read_made b r sizes (indices_of back) is))
read-moves (Err e) b next r sizes back k is of entries promised limits fits seats line tally rest = tt
read-moves (Ok a) b next r sizes back k is of entries promised limits fits seats line tally rest =
    let pool = b.pool.buffers in
    let h = b.history.entries in
    let s = before b in
    let numbers = indices_of back in
    let port = is.at.port in
    let here = is.at.here.at in
    let want = want-is b r sizes numbers k is in
    let parts : parts_in next ≡ record (parts_in b) { tally = tally_after_add r.at.0 (count_read r.frames) b.tally } =
    rest.parts ∙ ap (λ t. record (parts_in b) { tally = t }) tally in
    let reply : Gave r.frames (dests_wanted (wants_read r sizes)) ≡ (read_made b r sizes numbers is).reply = sym (ap (λ (e : Entry). e.reply) (entry-is b r sizes numbers k is)) in
    let ask = read_ask r.is_pipe r.at numbers in
    record {
      step_is = is.at.step_is;
      entries = entries ∙ ap (λ (e : Entry). h ++ e ∷ []) (sym (entry-is b r sizes numbers k is));
      limits = limits;
      promised = omega (arith, promised, want);
      room = fits-step b ask (read_made b r sizes numbers is) k
          (subst (λ (n : ℕ). Fits b.history n (bytes_of ask (read_made b r sizes numbers is).reply)) (sym want)
          (subst (λ (n : ℕ). Fits b.history (room_of_wants (wants_read r sizes)) n) (sym (no-bytes r.is_pipe r.at numbers (read_made b r sizes numbers is).reply)) fits));
      sessions = rw rest.sessions k.stands.sessions_are;
      ports = seat_change_is_change s.world.ports s.holdings.ports b.ports.items next.ports.items r.place port here.held (seat_synced numbers) (port_after_sync (length numbers))
          (with_returned (length (ready_lots port)) numbers) (ports-rising pool h b k.stands) here.here here.held_here seats refl;
      parts = subst (λ (a : Ask). ArePartsAfter s.world s.holdings a (read_made b r sizes numbers is).reply (parts_in b) (parts_in next)) (sym (kept-read r.is_pipe r.at numbers))
          (subst (λ (a : Reply). ArePartsAfter s.world s.holdings ask a (parts_in b) (parts_in next)) reply
          (subst (λ (p : Parts). ArePartsAfter s.world s.holdings ask (Gave r.frames (dests_wanted (wants_read r sizes))) (parts_in b) p) (sym parts)
          (parts-read r.is_pipe s r.at numbers r.frames (dests_wanted (wants_read r sizes)) (parts_in b))));
      region = rest.region;
      buffers = rest.buffers;
      free_are = subst (λ (p : Parts). AreOf b.region.region p.free.free) (sym rest.parts) k.free_are;
      lines_are = subst (Each (HasBuffersOf b.region.region)) (sym (line here.state here.state_here))
          (each-set (HasBuffersOf b.region.region) b.ports.items r.place (with_line (given_by_sync back here.state.line) here.state) k.lines_are
          (of-synced b.region.region back here.state of (each-at (HasBuffersOf b.region.region) b.ports.items r.place here.state k.lines_are here.state_here)));
    }

pub read-stays : {A E : Type 0} (made : Result A E) (b next : Inside) → next.history.limits ≡ b.history.limits
    → OnErr made ((next.history.entries ≡ b.history.entries) × (next.history.promised ≡ b.history.promised) × (next.ports.items ≡ b.ports.items) × (next.tally ≡ b.tally)) → IsRest b next
    → OnErr made (Stays b next)
read-stays (Ok a) b next limits err rest = tt
read-stays (Err e) b next limits err rest =
    record { entries = err.0; limits = limits; promised = err.1; sessions = rest.sessions; ports = err.2; parts = rest.parts ∙ ap (λ t. record (parts_in b) { tally = t }) err.3; region = rest.region; buffers = rest.buffers }

pub read-full : (b : Inside) (r : Reading) (sizes back : List ℕ) (fault : StepFault) → IsBook b → IsReading b r sizes back → IsFull b.history (room_of_wants (wants_read r sizes)) 0 fault
    → IsRefusal (recorded b) (read_ask r.is_pipe r.at back) fault
read-full b r sizes back fault k is full =
    let made = read_made b r sizes back is in
    let ask = read_ask r.is_pipe r.at back in
    full-step b ask made fault k is.at.step_is
    (subst (λ (n : ℕ). IsFull b.history n (bytes_of ask made.reply) fault) (sym (want-is b r sizes back k is))
    (subst (λ (n : ℕ). IsFull b.history (room_of_wants (wants_read r sizes)) n fault) (sym (no-bytes r.is_pipe r.at back made.reply)) full))

-- ---- what is given

pub read-given : (b : Inside) (r : Reading) (sizes back : List ℕ) (gots : List Got) → IsBook b → (is : IsReading b r sizes back) → OfSeat (λ (seat : Seat). Gives seat gots) b.ports.items r.place
    → OfState (λ (p : PortState). gots ≡ ready_gots p.line.lots) b.ports.items r.place → (p : Port) → open_port (before b).world.ports r.at.0 ≡ Some p
    → IsGivenOf (before b) b.region.region p gots
read-given b r sizes back gots k is gives ready p found =
    let pool = b.pool.buffers in
    let h = b.history.entries in
    let s = before b in
    let port = is.at.port in
    let here = is.at.here.at in
    let given = gives (seats_of s.world.ports s.holdings.ports) (record { port = port; held = here.held }) k.stands.ports_are (seats-at s.world.ports s.holdings.ports r.place port here.held here.here here.held_here) in
    let buffers = delivered_buffers-world pool h (length (ready_lots port)) r.place here.held k.stands.legal here.held_here in
    let at : IsGivenOf s b.region.region port gots = record {
      parts = given.parts;
      buffers = given.buffers ∙ (sym buffers ∙ ap (λ (id : ℕ). delivered_buffers id (length (ready_lots port)) s.holdings.ports) here.agrees.id);
      region_is = subst (λ (g : List Got). AreOf b.region.region (buffers_of g)) (sym (ready here.state here.state_here)) (of-given b.region.region b.ports.items r.place here.state here.state_here k.lines_are);
    } in
    subst (λ (q : Port). IsGivenOf s b.region.region q gots) (some-same (sym is.at.here.found ∙ found)) at

-- ---- what is offered

started-by : (pipe : Bool) (s : Standing) (at : PortId) (back : List ℕ) (reply : Reply) (port : Port) → open_port s.world.ports at.0 ≡ Some port
    → offers_started s.world (read_ask pipe at back) reply ≡ offers_of_sync s.world port
started-by true s at back reply port here = ap (λ (found : Option Port). option_map_or (offers_of_sync s.world) found []) here
started-by false s at back reply port here = ap (λ (found : Option Port). option_map_or (offers_of_sync s.world) found []) here

stands-offered : (b : Inside) (r : Reading) (sizes back : List ℕ) → IsBook b → (is : IsReading b r sizes back)
    → StandOffered (world_of b.pool.buffers (b.history.entries ++ read_entry r sizes back ∷ [])) (length b.history.entries + 1) r.session.0 (delivered_frames is.at.port) (wants_read r sizes)
stands-offered b r sizes back k is =
    let pool = b.pool.buffers in
    let h = b.history.entries in
    let s = before b in
    let entry = read_entry r sizes back in
    let port = is.at.port in
    let follows = follows-read b r sizes back k is in
    let count = count-world_of pool h in
    let w = world_of pool (h ++ entry ∷ []) in
    let are = reads_start pool h entry r.at back port k.stands.legal follows (reads-at r.is_pipe r.at back) is.at.here.found in
    let started = offers_start pool h entry follows ∙ started-by r.is_pipe s r.at back entry.reply port is.at.here.found in
    let by = by-session (s.world.entry_count + 1) port.session (monitored_frames (receive_monitor s.world port.id) (delivered_frames port)) s.world.ports in
    record {
      are = subst (OffersAre w (length h + 1) (delivered_frames port)) (sym is.wants)
          (subst (λ (n : ℕ). OffersAre w (n + 1) (delivered_frames port) (wants_monitored (receive_monitor s.world port.id) (delivered_frames port) [])) count are);
      by = subst (λ (n : ℕ). Each (IsOfferBy n) (offers_at w (length h + 1))) is.session
          (subst (λ (n : ℕ). Each (IsOfferBy port.session) (offers_at w (n + 1))) count (subst (Each (IsOfferBy port.session)) (sym started) by));
    }

pub read-offered : (b next : Inside) (r : Reading) (sizes back : List ℕ) (offers : OffersState) → IsBook b → (is : IsReading b r sizes back) → next.pool ≡ b.pool
    → next.history.entries ≡ b.history.entries ++ read_entry r sizes back ∷ [] → offers ≡ offers_to (length b.history.entries + 1) r.session (wants_read r sizes)
    → (p : Port) → open_port (before b).world.ports r.at.0 ≡ Some p → IsOfferedOf (recorded b) (recorded next) p offers
read-offered b next r sizes back offers k is pool entries offered p found =
    let port = is.at.port in
    subst (λ (q : Port). IsOfferedOf (recorded b) (recorded next) q offers) (some-same (sym is.at.here.found ∙ found))
    (offered-to b next (read_entry r sizes back) r.session port.session (receive_monitor (before b).world port.id) (delivered_frames port) (wants_read r sizes) offers pool entries offered is.session is.wants
    (stands-offered b r sizes back k is))

-- what the call says of its result
pub given-on : {E : Type 0} (made : Result Synced E) (b : Inside) (r : Reading) (sizes back : List ℕ) → IsBook b → IsReading b r sizes back
    → IfOk made (λ (x : Synced). OfSeat (λ (seat : Seat). Gives seat x.got.items) b.ports.items r.place)
    → IfOk made (λ (x : Synced). OfState (λ (p : PortState). x.got.items ≡ ready_gots p.line.lots) b.ports.items r.place)
    → IfOk made (λ (x : Synced). (p : Port) → open_port (before b).world.ports r.at.0 ≡ Some p → IsGivenOf (before b) b.region.region p x.got.items)
given-on (Err e) b r sizes back k is gives ready = tt
given-on (Ok x) b r sizes back k is gives ready = read-given b r sizes back x.got.items k is gives ready

pub offered-on : {E : Type 0} (made : Result Synced E) (b next : Inside) (r : Reading) (sizes back : List ℕ) → IsBook b → IsReading b r sizes back → next.pool ≡ b.pool
    → OnOk made (next.history.entries ≡ b.history.entries ++ read_entry r sizes back ∷ []) → IfOk made (λ (x : Synced). x.offers ≡ offers_to (length b.history.entries + 1) r.session (wants_read r sizes))
    → IfOk made (λ (x : Synced). (p : Port) → open_port (before b).world.ports r.at.0 ≡ Some p → IsOfferedOf (recorded b) (recorded next) p x.offers)
offered-on (Err e) b next r sizes back k is pool entries offered = tt
offered-on (Ok x) b next r sizes back k is pool entries offered = read-offered b next r sizes back x.offers k is pool entries offered
