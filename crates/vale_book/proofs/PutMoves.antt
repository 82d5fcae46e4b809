-- What a put makes of a book.
use Rattle.std.proofs.Common.{ℕ, true, false, ◌≡◌, ◌≤◌, ◌+◌, nat_le, List, [], ◌∷◌, ◌++◌, length, take, slice_set, Option, Some, None, option_map, is_some, Result, Ok, Err, OnOk, OnErr, IfOk, refl, sym, ◌∙◌, ap, subst, arith}
use Rattle.std.specs.Prelude.{IsSome, IfSome, IfNone, All}
use Rattle.std.specs.Option.{ForSome, option_map_or}
use Rattle.std.specs.List.{list_all, AllByRecursion as Each}
use Rattle.std.proofs.lemmas.Bool.{and_parts, leb-true}
use Rattle.std.proofs.lemmas.List.{length-map, length-take-le}
use Rattle.nm_types.specs.declared.id.PortId.{PortId}
use Rattle.nm_types.specs.declared.id.Counts.{Counts}
use Rattle.nm_types.specs.declared.id.SessionId.{SessionId}
use Rattle.nm_types.specs.declared.id.Side.TheVariants.{Tx}
use Rattle.nm_types.specs.declared.fault.StepFault.{StepFault}
use Rattle.nm_types.specs.Counters.{SumFits, zero_counts}
use Rattle.nm_types.specs.Frames.{Frame, bytes_of_frames}
use Rattle.nm_types.specs.Limits.{most_batch}
use Rattle.nm_types.specs.Names.{is_pipe_name, peer_name}
use Rattle.nm_region.specs.Buffers.{Buffer, indices_of}
use Rattle.nm_count.specs.declared.tally.Tallied.{Tallied}
use Rattle.nm_count.specs.Tallies.{counts_of, tally_after_add}
use Rattle.nm_watch.specs.Watching.{monitor_of}
use Rattle.vale_names.specs.Ports.{open_port_of}
use Rattle.vale_names.specs.PortNames.{IsNames}
use Rattle.vale_lease.specs.Leases.{is_there}
use Rattle.vale_line.specs.declared.got.Got.{Got}
use Rattle.vale_line.specs.Gots.{buffers_of, frames_in, IsSingle}
use Rattle.vale_line.specs.Lines.{leases_of}
use Rattle.vale_entry.specs.declared.entry.Ask.TheVariants.{Put, PutKept}
use Rattle.vale_entry.specs.declared.entry.Reply.TheVariants.{Took, PeerGone}
use Rattle.vale_entry.specs.declared.entry.Dest.{Dest}
use Rattle.vale_entry.specs.declared.entry.Item.{Item}
use Rattle.vale_entry.specs.declared.entry.Entry.{Entry}
use Rattle.vale_entry.specs.World.{Port, open_port, is_settled, transmit_monitor}
use Rattle.vale_entry.specs.Holdings.{with_put_buffers, first_idle}
use Rattle.vale_entry.specs.Laws.{HasLotsUpTo}
use Rattle.vale_entry.specs.Legal.{Standing, Outcome, step, unchanged, can_put, put_step, put_step_by, put_step_at, offers_of_put, room_of_dests, IsEnabled, Follows, world_of}
use Rattle.vale_entry.specs.Offers.{dests_of, monitored_frames}
use Rattle.vale_entry.specs.Pipe.{peer_of, peer_at, peer_of_found, taken_count, frames_of_items, is_pipe_item, port_after_put}
use Rattle.vale_entry.specs.Pipe.{indices_of as item_indices}
use Rattle.vale_entry.specs.Stored.{Fits, IsFull}
use Rattle.vale_entry.proofs.Worlds.{count-world_of}
use Rattle.vale_entry.proofs.HistoryLaws.{numbers-rise}
use Rattle.vale_entry.proofs.ListLaws.{each-at, each-set}
use Rattle.vale_entry.proofs.HistoryPlaces.{helds-rise}
use Rattle.vale_entry.proofs.Places.{peer-place, open_port-world, first_idle-place}
use Rattle.vale_entry.proofs.Each.{each-take}
use Rattle.vale_port.specs.Kept.{bytes_of}
use Rattle.vale_port.specs.Laws.{with_line, line_after_put}
use Rattle.vale_port.specs.Lists.{IsFoundAt, IsNotFound, ChangesSeat, OfSeat, OfState}
use Rattle.vale_port.specs.Ports.{PortState}
use Rattle.vale_port.specs.Seat.{Seat, seats_of, seat_put}
use Rattle.vale_port.proofs.Lists.{seats-at, new_is_new}
use Rattle.vale_port.proofs.Places.{seat_change_is_change}
use Rattle.nm_count.specs.Laws.{sum_if_port}
use Rattle.nm_count.proofs.TallyLaws.{adding_sums}
use Rattle.vale_parts.specs.Adding.{FitsIn, FitsAtPeer}
use Rattle.vale_parts.specs.Batches.{wants_monitored, dests_wanted}
use Rattle.vale_parts.specs.Ids.{id_of}
use Rattle.vale_parts.specs.NameLaws.{number_of}
use Rattle.vale_parts.specs.Offering.{OffersAre, offers_at}
use Rattle.vale_parts.specs.Parts.{Parts, ArePartsAfter}
use Rattle.vale_parts.specs.WorldCounts.{added_at}
use Rattle.vale_parts.proofs.AllParts.{tables_stay}
use Rattle.vale_parts.proofs.Additions.{additions_fit}
use Rattle.vale_parts.proofs.BatchWants.{puts_replied}
use Rattle.vale_parts.proofs.CountsKept.{open_counted, nothing_added}
use Rattle.vale_parts.proofs.NameAnswers.{names_find_peers}
use Rattle.vale_parts.proofs.OffersKept.{puts_start, offers_start}
use Rattle.vale_book.specs.declared.book.Book.TheInside.{Inside}
use Rattle.vale_steps.specs.declared.putting.Putting.{Putting}
use Rattle.vale_steps.specs.declared.putting.Put.{Put as PutGiven}
use Rattle.nm_region.specs.Regions.{AreOf}
use Rattle.vale_book.specs.BookView.{recorded, parts_in, HasBuffersOf, IsBook}
use Rattle.vale_book.specs.Monitored.{IsOfferedTo}
use Rattle.vale_steps.specs.Monitored.{room_of_wants}
use Rattle.vale_steps.specs.Offering.{IsOfferBy}
use Rattle.vale_steps.specs.Putting.{items_of, wants_put, put_entry, gone_entry, count_sent, count_given, copied, IfPut, IsPutBy}
use Rattle.vale_book.specs.Putting.{IsPut}
use Rattle.nm_types.specs.Ids.{lease_id}
use Rattle.nm_types.proofs.Lists.{each-front}
use Rattle.vale_own.specs.Recorded.{entry_of, IsRefusal}
use Rattle.vale_book.proofs.Found.{open_at, open-here, never-missing as never-closed}
use Rattle.vale_steps.proofs.MonitoredWants.{wants-put}
use Rattle.vale_book.proofs.Moves.{Moves, Stays, before, fits-step, full-step, entries-few}
use Rattle.vale_book.proofs.OfferedTo.{by-session, StandOffered, offered-to}
use Rattle.vale_book.proofs.PortLines.{of-first, of-put}
use Rattle.vale_steps.proofs.PutLists.{items-first, indices-items, frames-items}
use Rattle.vale_book.proofs.PutsTold.{fit-taken}
use Rattle.vale_book.proofs.ReadMoves.{IsRest}
use Rattle.vale_own.proofs.Rooms.{step-recorded}
use Rattle.vale_book.proofs.Standing.{IsHere, found-here, not-found, ports-rising}

-- ---- the port that puts, at its place

pub record IsPutAt (b : Inside) (at : PortId) (items : List Item) (place : ℕ) : Type 0 where
  pub port : Port
  pub here : IsHere b.pool.buffers b.history.entries b (open_at at.0) place port
  pub id_is : port.id ≡ at.0
  pub is_pipe : is_pipe_name port.name ≡ true
  pub pipe : list_all is_pipe_item items ≡ true
  pub few : length items ≤ most_batch
  pub step_is : step (before b) (Put at items) ≡ Some (put_step_at (before b) items port)

step-put : (s : Standing) (at : PortId) (items : List Item) (port : Port) → open_port s.world.ports at.0 ≡ Some port → can_put s items port ≡ true
    → step s (Put at items) ≡ Some (put_step_at s items port)
step-put s at items port here can = rw (here, can) refl

pub put-at : (b : Inside) (at : PortId) (items : List Item) (place : ℕ) → IsBook b → IsEnabled (before b) (Put at items) → IsFoundAt (open_at at.0) b.ports.items place → IsPutAt b at items place
put-at b at items place k enabled found =
    let s = before b in
    let here = open-here b at.0 place (can_put s items) k found enabled in
    let parts = and_parts _ (nat_le (length items) most_batch) here.passes in
    let name = and_parts (is_pipe_name here.port.name) _ parts.0 in
    let each = and_parts (is_settled s.world here.port.session) _ name.1 in
    record {
      port = here.port;
      here = here.here;
      id_is = here.id_is;
      is_pipe = name.0;
      pipe = (and_parts (list_all is_pipe_item items) _ each.1).0;
      few = leb-true (length items) most_batch parts.1;
      step_is = step-put s at items here.port here.here.found here.passes;
    }

pub never-missing : (b : Inside) (at : PortId) (items : List Item) → IsBook b → IsEnabled (before b) (Put at items) → IsNotFound (open_at at.0) b.ports.items → ⊥
never-missing b at items k enabled none = never-closed b at.0 (can_put (before b) items) k none enabled

pub own-pipe : (b : Inside) (at : PortId) (items : List Item) (place : ℕ) → IsPutAt b at items place → OfState (λ (p : PortState). is_pipe_name p.name ≡ true) b.ports.items place
own-pipe b at items place r = λ p is.
    let same : p ≡ r.here.at.state = cc (is, r.here.at.state_here) in
    ap is_pipe_name (ap (λ (q : PortState). q.name) same ∙ r.here.at.is_seat.name) ∙ r.is_pipe

-- ---- the other end, as the names find it

peer-found : (b : Inside) (at : PortId) (items : List Item) (place : ℕ) (found : Option PortId) → IsBook b → (r : IsPutAt b at items place)
    → OfState (λ (p : PortState). found ≡ open_port_of b.names (peer_name p.name)) b.ports.items place → IsNames b.names
    → id_of found ≡ option_map number_of (peer_of (before b).world.ports r.port)
peer-found b at items place found k r is names =
    let here = r.here.at in
    ap id_of (is here.state here.state_here) ∙ (ap (λ (name : List ℕ). id_of (open_port_of b.names (peer_name name))) here.is_seat.name
    ∙ names_find_peers (before b).world b.names r.port k.stands.parts_are.names_are names r.is_pipe)

none-by : (found : Option Port) → id_of None ≡ option_map number_of found → found ≡ None
none-by None is = refl
none-by (Some p) is = absurd cc

record IsFoundAs (found : Option Port) (id : ℕ) : Type 0 where
  it : Port
  found_is : found ≡ Some it
  id_is : it.id ≡ id

some-by : (found : Option Port) (id : PortId) → id_of (Some id) ≡ option_map number_of found → IsFoundAs found id.0
some-by None id is = absurd cc
some-by (Some p) id is = record { it = p; found_is = refl; id_is = cc }

-- ---- the other end is not open

pub record IsGone (b : Inside) (at : PortId) (items : List Item) (session : SessionId) (offered : ℕ) : Type 0 where
  pub port : Port
  pub found : open_port (before b).world.ports at.0 ≡ Some port
  pub session_is : port.session ≡ session.0
  pub offered_is : length items ≡ offered
  pub none : peer_of (before b).world.ports port ≡ None
  pub step_is : step (before b) (Put at items) ≡ Some (unchanged (before b) port.session PeerGone)

pub gone-is : (b : Inside) (at : PortId) (items : List Item) (place : ℕ) (session : SessionId) (offered : ℕ) → IsBook b → (r : IsPutAt b at items place)
    → OfState (λ (p : PortState). session.0 ≡ p.session) b.ports.items place
    → OfState (λ (p : PortState). None ≡ open_port_of b.names (peer_name p.name)) b.ports.items place → IsNames b.names → length items ≡ offered → IsGone b at items session offered
gone-is b at items place session offered k r own none names count =
    let s = before b in
    let here = r.here.at in
    let no : peer_of s.world.ports r.port ≡ None = none-by (peer_of s.world.ports r.port) (peer-found b at items place None k r none names) in
    record {
      port = r.port;
      found = r.here.found;
      session_is = sym (own here.state here.state_here ∙ here.is_seat.session);
      offered_is = count;
      none = no;
      step_is = r.step_is ∙ ap (λ (found : Option Port). Some (put_step_by s (take (taken_count found (length items)) items) r.port found)) no;
    }

peer-none : (b : Inside) (at : PortId) (items : List Item) (session : SessionId) (offered : ℕ) → IsGone b at items session offered → peer_at (before b).world.ports at.0 ≡ None
peer-none b at items session offered g = ap (peer_of_found (before b).world.ports) g.found ∙ g.none

gone-by : (session : ℕ) (id : SessionId) (at : PortId) (n m : ℕ) → session ≡ id.0 → n ≡ m → (let e : Entry = record { session = record { 0 = session }; ask = PutKept at n; reply = PeerGone } in e) ≡ gone_entry id at m
gone-by session id at n m one two = rw (one, two) refl

parts-gone : (s : Standing) (at : PortId) (n : ℕ) (parts : Parts) → peer_at s.world.ports at.0 ≡ None → ArePartsAfter s.world s.holdings (PutKept at n) PeerGone parts parts
parts-gone s at n parts none = record {
  names_next = refl;
  tables_wanted = tt;
  tables_next = sym (tables_stay s.world (PutKept at n) parts.tables refl);
  watches_next = λ port. refl;
  tally_next = sym (ap (λ (found : Option Port). added_at found zero_counts (tally_after_add at.0 zero_counts parts.tally)) none ∙ nothing_added parts.tally at.0);
  free_next = refl;
}

pub gone-moves : {A E : Type 0} (made : Result A E) (b next : Inside) (at : PortId) (items : List Item) (session : SessionId) (offered : ℕ) → IsBook b → (g : IsGone b at items session offered)
    → OnOk made (next.history.entries ≡ b.history.entries ++ gone_entry session at offered ∷ []) → next.history.promised ≡ b.history.promised → next.history.limits ≡ b.history.limits
    → OnOk made (Fits b.history 1 0) → next.ports.items ≡ b.ports.items → next.tally ≡ b.tally → IsRest b next
    → OnOk made (Moves b next (Put at items) (unchanged (before b) g.port.session PeerGone))
gone-moves (Err e) b next at items session offered k g entries promised limits fits ports tally rest = tt
gone-moves (Ok a) b next at items session offered k g entries promised limits fits ports tally rest =
    let s = before b in
    let parts : parts_in next ≡ parts_in b = rest.parts ∙ ap (λ t. record (parts_in b) { tally = t }) tally in
    record {
      step_is = g.step_is;
      entries = entries ∙ ap (λ (e : Entry). b.history.entries ++ e ∷ []) (sym (gone-by g.port.session session at (length items) offered g.session_is g.offered_is));
      limits = limits;
      promised = omega (arith, promised);
      room = fits-step b (Put at items) (unchanged s g.port.session PeerGone) k fits;
      sessions = rw rest.sessions k.stands.sessions_are;
      ports = rw ports k.stands.ports_are;
      parts = subst (ArePartsAfter s.world s.holdings (PutKept at (length items)) PeerGone (parts_in b)) (sym parts) (parts-gone s at (length items) (parts_in b) (peer-none b at items session offered g));
      region = rest.region;
      buffers = rest.buffers;
      free_are = subst (λ (p : Parts). AreOf b.region.region p.free.free) (sym rest.parts) k.free_are;
      lines_are = rw ports k.lines_are;
    }

pub gone-stays : {A E : Type 0} (made : Result A E) (b next : Inside) → OnErr made (next.history.entries ≡ b.history.entries) → next.history.promised ≡ b.history.promised
    → next.history.limits ≡ b.history.limits → next.ports.items ≡ b.ports.items → next.tally ≡ b.tally → IsRest b next → OnErr made (Stays b next)
gone-stays (Ok a) b next entries promised limits ports tally rest = tt
gone-stays (Err e) b next entries promised limits ports tally rest =
    record { entries = entries; limits = limits; promised = promised; sessions = rest.sessions; ports = ports; parts = rest.parts ∙ ap (λ t. record (parts_in b) { tally = t }) tally; region = rest.region; buffers = rest.buffers }

-- ---- the other end is open

pub record IsPutting (b : Inside) (p : Putting) (gots : List Got) : Type 0 where
  pub port : Port
  pub found : open_port (before b).world.ports p.at.0 ≡ Some port
  pub id_is : port.id ≡ p.at.0
  pub session : port.session ≡ p.session.0
  pub peer : Port
  pub peer_is : peer_of (before b).world.ports port ≡ Some peer
  pub there : IsHere b.pool.buffers b.history.entries b (open_at p.peer.0) p.place peer
  pub peer_id : peer.id ≡ p.peer.0
  pub offered : length (items_of gots) ≡ p.offered
  pub pipe : list_all is_pipe_item (items_of gots) ≡ true
  pub took : p.took ≡ taken_count (Some peer) (length gots)
  pub few : length gots ≤ most_batch
  pub monitor : id_of p.monitor ≡ transmit_monitor (before b).world port.id
  pub step_is : step (before b) (Put p.at (items_of gots)) ≡ Some (put_step (before b) (items_of (take p.took gots)) port peer)

pub record PeerOpens (b : Inside) (port : Port) (peer : PortId) : Type 0 where
  pub it : Port
  pub found_is : peer_of (before b).world.ports port ≡ Some it
  pub id_is : it.id ≡ peer.0
  pub opens : open_port (before b).world.ports peer.0 ≡ Some it

peer-opens : (b : Inside) (at : PortId) (items : List Item) (place : ℕ) (peer : PortId) → IsBook b → (r : IsPutAt b at items place)
    → OfState (λ (p : PortState). Some peer ≡ open_port_of b.names (peer_name p.name)) b.ports.items place → IsNames b.names → PeerOpens b r.port peer
peer-opens b at items place peer k r name names =
    let pool = b.pool.buffers in
    let h = b.history.entries in
    let w = (before b).world in
    let f = some-by (peer_of w.ports r.port) peer (peer-found b at items place (Some peer) k r name names) in
    let stands = peer-place w.ports _ r.port f.it (numbers-rise pool h).ports_rise f.found_is in
    record {
      it = f.it;
      found_is = f.found_is;
      id_is = f.id_is;
      opens = subst (λ (id : ℕ). open_port w.ports id ≡ Some f.it) f.id_is (open_port-world pool h stands.place f.it stands.here stands.stands_open);
    }

abbrev pub putting_of : PortId → SessionId → PortId → ℕ → ℕ → ℕ → Option PortId → Putting
putting_of at session peer place offered took monitor = record { at = at; session = session; peer = peer; place = place; offered = offered; took = took; monitor = monitor }

pub count-items : (gots : List Got) → length (items_of gots) ≡ length gots
count-items gots = length-map gots _

pub putting-is : (b : Inside) (at : PortId) (session : SessionId) (peer : PortId) (place there offered took : ℕ) (monitor : Option PortId) (gots : List Got) → IsBook b
    → (r : IsPutAt b at (items_of gots) place) → OfState (λ (p : PortState). session.0 ≡ p.session) b.ports.items place
    → OfState (λ (p : PortState). Some peer ≡ open_port_of b.names (peer_name p.name)) b.ports.items place → IsNames b.names
    → IsFoundAt (open_at peer.0) b.ports.items there → length gots ≡ offered
    → OfSeat (λ (seat : Seat). took ≡ taken_count (Some seat.port) offered) b.ports.items there → monitor ≡ monitor_of b.watches at.0 Tx
    → IsPutting b (putting_of at session peer there offered took monitor) gots
putting-is b at session peer place there offered took monitor gots k r own name names found count taken watched =
    let pool = b.pool.buffers in
    let h = b.history.entries in
    let s = before b in
    let w = s.world in
    let items = items_of gots in
    let here = r.here.at in
    let f = peer-opens b at items place peer k r name names in
    let at-there = found-here pool h b (open_at peer.0) there f.it k.stands found f.opens in
    let same : took ≡ taken_count (Some f.it) (length gots) =
    taken (seats_of w.ports s.holdings.ports) (record { port = f.it; held = at-there.at.held }) k.stands.ports_are (seats-at w.ports s.holdings.ports there f.it at-there.at.held at-there.at.here at-there.at.held_here)
    ∙ ap (taken_count (Some f.it)) (sym count) in
    let first : take (taken_count (Some f.it) (length items)) items ≡ items_of (take took gots) =
    ap (λ (n : ℕ). take (taken_count (Some f.it) n) items) (count-items gots) ∙ (ap (λ (n : ℕ). take n items) (sym same) ∙ items-first took gots) in
    record {
      port = r.port;
      found = r.here.found;
      id_is = r.id_is;
      session = sym (own here.state here.state_here ∙ here.is_seat.session);
      peer = f.it;
      peer_is = f.found_is;
      there = at-there;
      peer_id = f.id_is;
      offered = count-items gots ∙ count;
      pipe = r.pipe;
      took = same;
      few = subst (λ (n : ℕ). n ≤ most_batch) (count-items gots) r.few;
      monitor = ap id_of watched ∙ (k.stands.parts_are.watches_are.transmit at.0 ∙ ap (transmit_monitor w) (sym r.id_is));
      step_is = r.step_is
          ∙ (ap (λ (o : Option Port). Some (put_step_by s (take (taken_count o (length items)) items) r.port o)) f.found_is
          ∙ ap (λ (xs : List Item). Some (put_step s xs r.port f.it)) first);
    }

-- as they are read of a book
own-at : (b : Inside) (at : PortId) (items : List Item) (place : ℕ) (ports : List PortState) → IsBook b → IsEnabled (before b) (Put at items) → ports ≡ b.ports.items
    → IsFoundAt (open_at at.0) ports place → IsPutAt b at items place
own-at b at items place ports k enabled same found = put-at b at items place k enabled (subst (λ (ps : List PortState). IsFoundAt (open_at at.0) ps place) same found)

pub pipe-known : (b : Inside) (at : PortId) (items : List Item) (place : ℕ) (one two : List PortState) → IsBook b → IsEnabled (before b) (Put at items)
    → one ≡ b.ports.items → two ≡ b.ports.items → IsFoundAt (open_at at.0) one place → OfState (λ (p : PortState). is_pipe_name p.name ≡ true) two place
pipe-known b at items place one two k enabled e1 e2 found =
    subst (λ (ps : List PortState). OfState (λ (p : PortState). is_pipe_name p.name ≡ true) ps place) (sym e2) (own-pipe b at items place (own-at b at items place one k enabled e1 found))

pub gone-known : (b : Inside) (at : PortId) (items : List Item) (place : ℕ) (session : SessionId) (offered : ℕ) (one two three : List PortState) → IsBook b → IsEnabled (before b) (Put at items)
    → one ≡ b.ports.items → two ≡ b.ports.items → three ≡ b.ports.items → IsFoundAt (open_at at.0) one place
    → OfState (λ (p : PortState). session.0 ≡ p.session) two place
    → OfState (λ (p : PortState). None ≡ open_port_of b.names (peer_name p.name)) three place → IsNames b.names → length items ≡ offered → IsGone b at items session offered
gone-known b at items place session offered one two three k enabled e1 e2 e3 found own none names count =
    gone-is b at items place session offered k (own-at b at items place one k enabled e1 found)
    (subst (λ (ps : List PortState). OfState (λ (p : PortState). session.0 ≡ p.session) ps place) e2 own)
    (subst (λ (ps : List PortState). OfState (λ (p : PortState). None ≡ open_port_of b.names (peer_name p.name)) ps place) e3 none) names count

pub peer-missing : (b : Inside) (at : PortId) (items : List Item) (place : ℕ) (peer : PortId) (one three four : List PortState) → IsBook b → IsEnabled (before b) (Put at items)
    → one ≡ b.ports.items → three ≡ b.ports.items → four ≡ b.ports.items → IsFoundAt (open_at at.0) one place
    → OfState (λ (p : PortState). Some peer ≡ open_port_of b.names (peer_name p.name)) three place → IsNames b.names → IsNotFound (open_at peer.0) four → ⊥
peer-missing b at items place peer one three four k enabled e1 e3 e4 found name names none =
    let r = own-at b at items place one k enabled e1 found in
    let f = peer-opens b at items place peer k r (subst (λ (ps : List PortState). OfState (λ (p : PortState). Some peer ≡ open_port_of b.names (peer_name p.name)) ps place) e3 name) names in
    let wrong : Some f.it ≡ None = sym f.opens ∙ not-found b.pool.buffers b.history.entries b (open_at peer.0) k.stands (subst (IsNotFound (open_at peer.0)) e4 none) in
    absurd cc

pub putting-known : (b : Inside) (at : PortId) (session : SessionId) (peer : PortId) (place there offered took : ℕ) (monitor : Option PortId) (gots : List Got) (one two three four five : List PortState)
    → IsBook b → IsEnabled (before b) (Put at (items_of gots)) → one ≡ b.ports.items → two ≡ b.ports.items → three ≡ b.ports.items → four ≡ b.ports.items → five ≡ b.ports.items
    → IsFoundAt (open_at at.0) one place → OfState (λ (p : PortState). session.0 ≡ p.session) two place
    → OfState (λ (p : PortState). Some peer ≡ open_port_of b.names (peer_name p.name)) three place → IsNames b.names
    → IsFoundAt (open_at peer.0) four there → length gots ≡ offered
    → OfSeat (λ (seat : Seat). took ≡ taken_count (Some seat.port) offered) five there → monitor ≡ monitor_of b.watches at.0 Tx
    → IsPutting b (putting_of at session peer there offered took monitor) gots
putting-known b at session peer place there offered took monitor gots one two three four five k enabled e1 e2 e3 e4 e5 found own name names opens count taken watched =
    putting-is b at session peer place there offered took monitor gots k (own-at b at (items_of gots) place one k enabled e1 found)
    (subst (λ (ps : List PortState). OfState (λ (p : PortState). session.0 ≡ p.session) ps place) e2 own)
    (subst (λ (ps : List PortState). OfState (λ (p : PortState). Some peer ≡ open_port_of b.names (peer_name p.name)) ps place) e3 name) names
    (subst (λ (ps : List PortState). IsFoundAt (open_at peer.0) ps there) e4 opens) count
    (subst (λ (ps : List PortState). OfSeat (λ (seat : Seat). took ≡ taken_count (Some seat.port) offered) ps there) e5 taken) watched

abbrev pub taken_gots : Putting → List Got → List Got
taken_gots p gots = take p.took gots

abbrev pub taken_items : Putting → List Got → List Item
taken_items p gots = items_of (taken_gots p gots)

abbrev pub taken_frames : Putting → List Got → List Frame
taken_frames p gots = frames_of_items (taken_items p gots)

pub took-few : (b : Inside) (p : Putting) (gots : List Got) → IsPutting b p gots → p.took ≤ length gots
took-few b p gots is = let took = is.took in omega (arith, took)

count-taken : (b : Inside) (p : Putting) (gots : List Got) → IsPutting b p gots → length (taken_items p gots) ≡ p.took
count-taken b p gots is = count-items (take p.took gots) ∙ length-take-le p.took gots (took-few b p gots is)

count-frames : (b : Inside) (p : Putting) (gots : List Got) → IsPutting b p gots → p.took ≡ length (taken_frames p gots)
count-frames b p gots is = sym (length-map (taken_items p gots) _ ∙ count-taken b p gots is)

wants-are : (b : Inside) (p : Putting) (gots : List Got) → (is : IsPutting b p gots)
    → wants_put p ≡ wants_monitored (transmit_monitor (before b).world is.port.id) (taken_frames p gots) []
wants-are b p gots is = wants-put p.monitor (taken_frames p gots) p.took (transmit_monitor (before b).world is.port.id) (count-frames b p gots is) (fit-taken p.took gots is.pipe) is.monitor

dests-are : (b : Inside) (p : Putting) (gots : List Got) → IsBook b → (is : IsPutting b p gots) → dests_of (offers_of_put (before b).world is.port (taken_frames p gots)) ≡ dests_wanted (wants_put p)
dests-are b p gots k is = puts_replied b.pool.buffers b.history.entries is.port (taken_frames p gots) k.stands.legal ∙ ap dests_wanted (sym (wants-are b p gots is))

abbrev pub put_made : (b : Inside) (p : Putting) (gots : List Got) → IsPutting b p gots → Outcome
put_made b p gots is = put_step (before b) (taken_items p gots) is.port is.peer

entry-by : (session : ℕ) (id : SessionId) (at : PortId) (n m : ℕ) (items : List Item) (to to' : List Dest) → session ≡ id.0 → n ≡ m → to ≡ to'
    → (let e : Entry = record { session = record { 0 = session }; ask = PutKept at n; reply = Took items to } in e) ≡ record { session = id; ask = PutKept at m; reply = Took items to' }
entry-by session id at n m items to to' one two three = rw (one, two, three) refl

entry-is : (b : Inside) (p : Putting) (gots : List Got) → IsBook b → (is : IsPutting b p gots) → entry_of (Put p.at (items_of gots)) (put_made b p gots is) ≡ put_entry p (taken_items p gots)
entry-is b p gots k is =
    entry-by is.port.session p.session p.at (length (items_of gots)) p.offered (taken_items p gots) (dests_of (offers_of_put (before b).world is.port (taken_frames p gots))) (dests_wanted (wants_put p))
    is.session is.offered (dests-are b p gots k is)

want-is : (b : Inside) (p : Putting) (gots : List Got) → IsBook b → (is : IsPutting b p gots) → (put_made b p gots is).want ≡ room_of_wants (wants_put p)
want-is b p gots k is = ap room_of_dests (dests-are b p gots k is)

follows-put : (b : Inside) (p : Putting) (gots : List Got) → IsBook b → IsPutting b p gots → Follows (before b) (put_entry p (taken_items p gots))
follows-put b p gots k is =
    let made = put_made b p gots is in
    let follows : Follows (before b) (entry_of (Put p.at (items_of gots)) made) = rw (step-recorded (before b) (Put p.at (items_of gots)) made is.step_is) refl in
    subst (Follows (before b)) (entry-is b p gots k is) follows

peer-here : (b : Inside) (p : Putting) (gots : List Got) → (is : IsPutting b p gots) → peer_at (before b).world.ports p.at.0 ≡ Some is.peer
peer-here b p gots is = ap (peer_of_found (before b).world.ports) is.found ∙ is.peer_is

-- ---- what the call that lets the other end take asks for

pub new-here : (b : Inside) (p : Putting) (gots : List Got) → (is : IsPutting b p gots)
    → OfState (λ (q : PortState). is_there (length b.history.entries + 1) (leases_of q.line.lots) ≡ false) b.ports.items p.place
new-here b p gots is = λ q e.
    let h = b.history.entries in
    let here = is.there.at in
    let same : q ≡ here.state = cc (e, here.state_here) in
    let within = each-at (HasLotsUpTo (length h)) (before b).world.ports p.place is.peer (numbers-rise b.pool.buffers h).lots_within here.here in
    ap (λ (x : PortState). is_there (length h + 1) (leases_of x.line.lots)) same ∙ new_is_new (record { port = is.peer; held = here.held }) here.state (length h) (length h + 1) here.is_seat within (omega arith)

pub record CountsFit (b : Inside) (p : Putting) : Type 0 where
  pub own : IsSome (counts_of b.tally p.at.0)
  pub own_fits : ForSome (counts_of b.tally p.at.0) (λ (counts : Counts). SumFits counts (count_sent p.took))
  pub other : IsSome (counts_of (tally_after_add p.at.0 (count_sent p.took) b.tally) p.peer.0)
  pub other_fits : ForSome (counts_of (tally_after_add p.at.0 (count_sent p.took) b.tally) p.peer.0) (λ (counts : Counts). SumFits counts (count_given p.took))

abbrev BothFit : List Tallied → ℕ → Option Port → ℕ → Type 0
BothFit tally at peer count = FitsIn tally at (count_sent count) × FitsAtPeer (tally_after_add at (count_sent count) tally) peer (count_given count)

pub counts-fit : (b : Inside) (p : Putting) (gots : List Got) → IsBook b → IsPutting b p gots → CountsFit b p
counts-fit b p gots k is =
    let h = b.history.entries in
    let w = (before b).world in
    let taken = taken_items p gots in
    let tally = b.tally in
    let all : BothFit tally p.at.0 (peer_at w.ports p.at.0) (length taken) =
    additions_fit b.pool.buffers h (put_entry p taken) tally k.pool_fits.1 k.stands.legal (follows-put b p gots k is) (entries-few b k) k.stands.parts_are.counts_are in
    let fits : BothFit tally p.at.0 (Some is.peer) p.took =
    subst (BothFit tally p.at.0 (Some is.peer)) (count-taken b p gots is) (subst (λ (o : Option Port). BothFit tally p.at.0 o (length taken)) (peer-here b p gots is) all) in
    let own = open_counted b.pool.buffers h tally p.at.0 is.port k.stands.legal k.stands.parts_are.counts_are is.found in
    let other = open_counted b.pool.buffers h tally p.peer.0 is.peer k.stands.legal k.stands.parts_are.counts_are is.there.found in
    record {
      own = ap (λ (found : Option Counts). is_some found) own;
      own_fits = fits.0;
      other = ap (λ (found : Option Counts). is_some found)
          (adding_sums tally p.at.0 (count_sent p.took) p.peer.0 ∙ ap (option_map (sum_if_port p.at.0 p.peer.0 (count_sent p.took))) other);
      other_fits = subst (λ (id : ℕ). FitsIn (tally_after_add p.at.0 (count_sent p.took) tally) id (count_given p.took)) is.peer_id fits.1;
    }

-- ---- the step

parts-put : (s : Standing) (at : PortId) (n : ℕ) (items : List Item) (to : List Dest) (peer : Port) (parts : Parts) → peer_at s.world.ports at.0 ≡ Some peer
    → ArePartsAfter s.world s.holdings (PutKept at n) (Took items to) parts
    (record parts { tally = tally_after_add peer.id (count_given (length items)) (tally_after_add at.0 (count_sent (length items)) parts.tally) })
parts-put s at n items to peer parts here = record {
  names_next = refl;
  tables_wanted = tt;
  tables_next = sym (tables_stay s.world (PutKept at n) parts.tables refl);
  watches_next = λ port. refl;
  tally_next = sym (ap (λ (found : Option Port). added_at found (count_given (length items)) (tally_after_add at.0 (count_sent (length items)) parts.tally)) here);
  free_next = refl;
}

tally-by : (tally : List Tallied) (at peer id took n : ℕ) → peer ≡ id → n ≡ took
    → tally_after_add id (count_given took) (tally_after_add at (count_sent took) tally) ≡ tally_after_add peer (count_given n) (tally_after_add at (count_sent n) tally)
tally-by tally at peer id took n one two = rw (one, two) refl

pub put-moves : {A E : Type 0} (made : Result A E) (b next : Inside) (p : Putting) (gots : List Got) → IsBook b → (is : IsPutting b p gots) → AreOf b.region.region (buffers_of gots) → All IsSingle gots
    → OnOk made (next.history.entries ≡ b.history.entries ++ put_entry p (taken_items p gots) ∷ []) → OnOk made (next.history.promised + 1 ≡ b.history.promised + room_of_wants (wants_put p))
    → next.history.limits ≡ b.history.limits → OnOk made (Fits b.history (room_of_wants (wants_put p)) (bytes_of_frames (taken_frames p gots)))
    → OnOk made ((session : ℕ) (frames : List Frame) → bytes_of frames ≡ frames_in (taken_gots p gots)
    → ChangesSeat (seat_put (length b.history.entries + 1) session frames (indices_of (buffers_of (taken_gots p gots)))) b.ports.items p.place next.ports.items)
    → OnOk made (OfState (λ (q : PortState). next.ports.items ≡ slice_set b.ports.items p.place (with_line (line_after_put (lease_id (length b.history.entries + 1)) (taken_gots p gots) q.line) q)) b.ports.items p.place)
    → OnOk made (next.tally ≡ tally_after_add p.peer.0 (count_given p.took) (tally_after_add p.at.0 (count_sent p.took) b.tally)) → IsRest b next
    → OnOk made (Moves b next (Put p.at (items_of gots)) (put_made b p gots is))
put-moves (Err e) b next p gots k is of single entries promised limits fits seats line tally rest = tt
put-moves (Ok a) b next p gots k is of single entries promised limits fits seats line tally rest =
    let pool = b.pool.buffers in
    let h = b.history.entries in
    let s = before b in
    let w = s.world in
    let taken = taken_items p gots in
    let frames = taken_frames p gots in
    let here = is.there.at in
    let want = want-is b p gots k is in
    let made = put_made b p gots is in
    let count = count-world_of pool h in
    let tally' = tally ∙ tally-by b.tally p.at.0 is.peer.id p.peer.0 p.took (length taken) is.peer_id (count-taken b p gots is) in
    let parts = rest.parts ∙ ap (λ t. record (parts_in b) { tally = t }) tally' in
    let changes : ChangesSeat (seat_put (w.entry_count + 1) is.port.session frames (item_indices taken)) b.ports.items p.place next.ports.items =
    subst (λ (ns : List ℕ). ChangesSeat (seat_put (w.entry_count + 1) is.port.session frames ns) b.ports.items p.place next.ports.items) (sym (indices-items (taken_gots p gots)))
    (subst (λ (n : ℕ). ChangesSeat (seat_put (n + 1) is.port.session frames (indices_of (buffers_of (taken_gots p gots)))) b.ports.items p.place next.ports.items) (sym count)
    (seats is.port.session frames (frames-items p.took gots single))) in
    record {
      step_is = is.step_is;
      entries = entries ∙ ap (λ (e : Entry). h ++ e ∷ []) (sym (entry-is b p gots k is));
      limits = limits;
      promised = omega (arith, promised, want);
      room = fits-step b (Put p.at (items_of gots)) made k (subst (λ (n : ℕ). Fits b.history n (bytes_of_frames frames)) (sym want) fits);
      sessions = rw rest.sessions k.stands.sessions_are;
      ports = seat_change_is_change w.ports s.holdings.ports b.ports.items next.ports.items p.place is.peer here.held (seat_put (w.entry_count + 1) is.port.session frames (item_indices taken))
          (port_after_put (w.entry_count + 1) is.port.session frames) (with_put_buffers (item_indices taken)) (ports-rising pool h b k.stands) here.here here.held_here changes refl;
      parts = subst (λ (n : ℕ). ArePartsAfter w s.holdings (PutKept p.at n) made.reply (parts_in b) (parts_in next)) refl
          (subst (ArePartsAfter w s.holdings (PutKept p.at (length (items_of gots))) made.reply (parts_in b)) (sym parts)
          (parts-put s p.at (length (items_of gots)) taken (dests_of (offers_of_put w is.port frames)) is.peer (parts_in b) (peer-here b p gots is)));
      region = rest.region;
      buffers = rest.buffers;
      free_are = subst (λ (x : Parts). AreOf b.region.region x.free.free) (sym rest.parts) k.free_are;
      lines_are = subst (Each (HasBuffersOf b.region.region)) (sym (line here.state here.state_here))
          (each-set (HasBuffersOf b.region.region) b.ports.items p.place (with_line (line_after_put (lease_id (length h + 1)) (taken_gots p gots) here.state.line) here.state) k.lines_are
          (of-put b.region.region (lease_id (length h + 1)) (taken_gots p gots) here.state (of-first b.region.region p.took gots of)
          (each-at (HasBuffersOf b.region.region) b.ports.items p.place here.state k.lines_are here.state_here)));
    }

pub put-stays : {A E : Type 0} (made : Result A E) (b next : Inside) (pending gots : List Got) → next.history.limits ≡ b.history.limits
    → OnErr made ((next.history.entries ≡ b.history.entries) × (next.history.promised ≡ b.history.promised) × (next.ports.items ≡ b.ports.items) × (next.tally ≡ b.tally) × (pending ≡ gots)) → IsRest b next
    → OnErr made (Stays b next)
put-stays (Ok a) b next pending gots limits err rest = tt
put-stays (Err e) b next pending gots limits err rest =
    record { entries = err.0; limits = limits; promised = err.1; sessions = rest.sessions; ports = err.2; parts = rest.parts ∙ ap (λ t. record (parts_in b) { tally = t }) err.3; region = rest.region; buffers = rest.buffers }

pub put-full : (b : Inside) (p : Putting) (gots : List Got) (fault : StepFault) → IsBook b → IsPutting b p gots → IsFull b.history (room_of_wants (wants_put p)) (bytes_of_frames (taken_frames p gots)) fault
    → IsRefusal (recorded b) (Put p.at (items_of gots)) fault
put-full b p gots fault k is full =
    full-step b (Put p.at (items_of gots)) (put_made b p gots is) fault k is.step_is
    (subst (λ (n : ℕ). IsFull b.history n (bytes_of_frames (taken_frames p gots)) fault) (sym (want-is b p gots k is)) full)

-- ---- what is given

copied-id : (monitor : Option PortId) (frames : List Frame) → copied monitor frames ≡ copied (id_of monitor) frames
copied-id None frames = refl
copied-id (Some to) frames = refl

stands-put : (b : Inside) (p : Putting) (gots : List Got) → IsBook b → (is : IsPutting b p gots)
    → StandOffered (world_of b.pool.buffers (b.history.entries ++ put_entry p (taken_items p gots) ∷ [])) (length b.history.entries + 1) p.session.0 (taken_frames p gots) (wants_put p)
stands-put b p gots k is =
    let pool = b.pool.buffers in
    let h = b.history.entries in
    let s = before b in
    let taken = taken_items p gots in
    let frames = taken_frames p gots in
    let entry = put_entry p taken in
    let monitor = transmit_monitor s.world is.port.id in
    let follows = follows-put b p gots k is in
    let count = count-world_of pool h in
    let w = world_of pool (h ++ entry ∷ []) in
    let are = puts_start pool h entry p.at p.offered taken (dests_wanted (wants_put p)) is.port k.stands.legal follows refl refl is.found in
    let started = offers_start pool h entry follows ∙ ap (λ (found : Option Port). option_map_or (λ (port : Port). offers_of_put s.world port frames) found []) is.found in
    let by = by-session (s.world.entry_count + 1) is.port.session (monitored_frames monitor frames) s.world.ports in
    record {
      are = subst (OffersAre w (length h + 1) frames) (sym (wants-are b p gots is)) (subst (λ (n : ℕ). OffersAre w (n + 1) frames (wants_monitored monitor frames [])) count are);
      by = subst (λ (n : ℕ). Each (IsOfferBy n) (offers_at w (length h + 1))) is.session
          (subst (λ (n : ℕ). Each (IsOfferBy is.port.session) (offers_at w (n + 1))) count (subst (Each (IsOfferBy is.port.session)) (sym started) by));
    }

put-given : (b next : Inside) (p : Putting) (gots : List Got) (put : PutGiven) → IsBook b → IsPutting b p gots → next.pool ≡ b.pool
    → next.history.entries ≡ b.history.entries ++ put_entry p (taken_items p gots) ∷ [] → IsPutBy p (length b.history.entries + 1) (taken_gots p gots) put
    → OfSeat (λ (seat : Seat). indices_of put.back.items ≡ take p.took seat.held.idle) b.ports.items p.place
    → OfState (λ (q : PortState). put.back.items ≡ take p.took q.line.idle) b.ports.items p.place → IsPut (recorded b) (recorded next) p.at gots put
put-given b next p gots put k is pool entries by idle back =
    let h = b.history.entries in
    let s = before b in
    let w = s.world in
    let here = is.there.at in
    let monitor = transmit_monitor w is.port.id in
    let region = b.region.region in
    let own = each-front (λ (x : Buffer). x.region ≡ region) here.state.line.idle _ (each-at (HasBuffersOf region) b.ports.items p.place here.state k.lines_are here.state_here) in
    let first = first_idle-place p.took s.holdings.ports w.entry_count p.place here.held (helds-rise b.pool.buffers h k.stands.legal) here.held_here in
    let given = idle (seats_of w.ports s.holdings.ports) (record { port = is.peer; held = here.held }) k.stands.ports_are (seats-at w.ports s.holdings.ports p.place is.peer here.held here.here here.held_here) in
    let offers = offered-to b next (put_entry p (taken_items p gots)) p.session is.port.session monitor (taken_frames p gots) (wants_put p) put.offers pool entries by.offers is.session (wants-are b p gots is)
    (stands-put b p gots k is) in
    record {
      port = is.port;
      here = is.found;
      peer = is.peer;
      there = is.peer_is;
      is = record {
        took = by.took ∙ is.took;
        back = given ∙ (sym first ∙ (ap (λ (id : ℕ). first_idle id p.took s.holdings.ports) here.agrees.id ∙ ap (λ (n : ℕ). first_idle is.peer.id n s.holdings.ports) (sym by.took)));
        back_of = subst (AreOf region) (sym (back here.state here.state_here)) (each-take (λ (x : Buffer). x.region ≡ region) p.took here.state.line.idle own);
        copies = by.copies ∙ (copied-id p.monitor (taken_frames p gots) ∙ (ap (λ (m : Option ℕ). copied m (taken_frames p gots)) is.monitor
            ∙ ap (λ (n : ℕ). copied monitor (frames_of_items (items_of (take n gots)))) (sym by.took)));
        offers = subst (λ (n : ℕ). IsOfferedTo (recorded next) is.port.session monitor (frames_of_items (items_of (take n gots))) put.offers) (sym by.took) offers;
      };
    }

-- what the call says of its result
pub put-on : {E : Type 0} (made : Result (Option PutGiven) E) (b next : Inside) (p : Putting) (gots : List Got) → IsBook b → IsPutting b p gots → next.pool ≡ b.pool
    → OnOk made (next.history.entries ≡ b.history.entries ++ put_entry p (taken_items p gots) ∷ [])
    → IfOk made (λ (m : Option PutGiven). IfPut m (IsPutBy p (length b.history.entries + 1) (taken_gots p gots)))
    → IfOk made (λ (m : Option PutGiven). IfPut m (λ (put : PutGiven). OfSeat (λ (seat : Seat). indices_of put.back.items ≡ take p.took seat.held.idle) b.ports.items p.place))
    → IfOk made (λ (m : Option PutGiven). IfPut m (λ (put : PutGiven). OfState (λ (q : PortState). put.back.items ≡ take p.took q.line.idle) b.ports.items p.place))
    → IfOk made (λ (m : Option PutGiven). IfSome m (IsPut (recorded b) (recorded next) p.at gots))
put-on (Err e) b next p gots k is pool entries by idle back = tt
put-on (Ok None) b next p gots k is pool entries by idle back = absurd by
put-on (Ok (Some put)) b next p gots k is pool entries by idle back = put-given b next p gots put k is pool entries by idle back

-- and where the other end is not open
pub gone-on : {E : Type 0} (made : Result (Option PutGiven) E) (b : Inside) (at : PortId) (items : List Item) (session : SessionId) (offered : ℕ) → IsGone b at items session offered
    → IfOk made (λ (m : Option PutGiven). IfNone m (peer_at (before b).world.ports at.0 ≡ None))
gone-on (Err e) b at items session offered g = tt
gone-on (Ok None) b at items session offered g = peer-none b at items session offered g
gone-on (Ok (Some put)) b at items session offered g = tt

pub gone-full : (b : Inside) (at : PortId) (items : List Item) (session : SessionId) (offered : ℕ) (fault : StepFault) → IsBook b → (g : IsGone b at items session offered) → IsFull b.history 1 0 fault
    → IsRefusal (recorded b) (Put at items) fault
gone-full b at items session offered fault k g full = full-step b (Put at items) (unchanged (before b) g.port.session PeerGone) fault k g.step_is full
