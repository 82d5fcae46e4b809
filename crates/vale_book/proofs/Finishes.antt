-- A port goes, or waits for its leases.
use Rattle.std.proofs.Common.{Option, ℕ, true, List, [], ◌∷◌, ◌++◌, ◌≡◌, ◌≤◌, ◌<◌, ◌+◌, ◌==◌, length, Some, None, refl, sym, ◌∙◌, ap, subst, arith}
use Rattle.std.specs.Prelude.{IsSome}
use Rattle.std.specs.List.{remove}
use Rattle.std.proofs.lemmas.Bool.{and_parts, eqb-true, ne_eqb}
use Rattle.std.proofs.lemmas.List.{map-append}
use Rattle.nm_types.specs.declared.id.PortId.{PortId}
use Rattle.nm_types.specs.declared.id.SessionId.{SessionId}
use Rattle.nm_types.specs.declared.id.Chain.{Chain}
use Rattle.nm_region.specs.Buffers.{Buffer, indices_of}
use Rattle.nm_pool.specs.Free.{PoolState}
use Rattle.nm_count.specs.Tallies.{counts_of, tally_without}
use Rattle.vale_line.specs.Gots.{buffers_of}
use Rattle.vale_line.specs.Lines.{held_gots}
use Rattle.vale_names.specs.Ports.{ports_without as names_without}
use Rattle.vale_entry.specs.declared.entry.Ask.{Ask}
use Rattle.vale_entry.specs.declared.entry.Ask.TheVariants.{Finish}
use Rattle.vale_entry.specs.declared.entry.Reply.{Reply}
use Rattle.vale_entry.specs.declared.entry.Reply.TheVariants.{Unread, LeasesOut}
use Rattle.vale_entry.specs.declared.entry.Entry.{Entry}
use Rattle.vale_entry.specs.World.{Port, due_of}
use Rattle.vale_entry.specs.Closing.{shutting_port, leases_out, unread_count}
use Rattle.vale_entry.specs.Holdings.{buffers_at_port, buffers_of_port, holds_all}
use Rattle.vale_entry.specs.Legal.{Outcome, step, is_met, IsEnabled, fits_chain, can_finish, finish_step, finish_step_at, finish_reply, finish_reply_at, reply_to, Follows}
use Rattle.vale_entry.proofs.Each.{each-append}
use Rattle.vale_entry.proofs.ListLaws.{each-at}
use Rattle.vale_entry.proofs.Places.{shutting-place}
use Rattle.vale_entry.proofs.HistoryPlaces.{buffers_of_port-world}
use Rattle.vale_entry.proofs.HistoryLaws.{numbers-rise}
use Rattle.vale_parts.specs.FreeBuffers.{CanAllBeGiven, pool_with_all}
use Rattle.vale_parts.proofs.AllParts.{tables_stay}
use Rattle.vale_parts.proofs.CountsKept.{shutting_counted}
use Rattle.vale_parts.proofs.FreeKept.{finishes_give}
use Rattle.vale_port.specs.Lists.{IsFoundAt, IsNotFound, OfSeat, OfState}
use Rattle.vale_port.specs.Ports.{PortState, due_of_state}
use Rattle.vale_port.specs.Seat.{Seat, seats_of}
use Rattle.vale_port.proofs.Lists.{seats-at, gone_is_gone}
use Rattle.vale_book.specs.declared.book.Book.TheInside.{Inside}
use Rattle.nm_region.specs.Regions.{AreOf}
use Rattle.vale_book.specs.BookView.{recorded, parts_in, HasBuffersOf, IsBook}
use Rattle.vale_own.specs.Recorded.{entry_of, HasRoomFor}
use Rattle.vale_own.proofs.Rooms.{step-recorded}
use Rattle.vale_book.proofs.Moves.{Moves, before}
use Rattle.vale_steps.proofs.Lists.{each-remove}
use Rattle.vale_book.proofs.Standing.{IsHere, met, found-here, not-found, ports-rising}
use Rattle.vale_steps.proofs.GivenBack.{with-both, are-with_all}

abbrev pub shutting_at : ℕ → List Port → Option Port
shutting_at id ports = shutting_port ports id

-- the shutting port that is to go, at its place in a book
pub record IsShuttingHere (b : Inside) (id place : ℕ) (bufs : List ℕ) (chain : Chain) : Type 0 where
  pub port : Port
  pub here : IsHere b.pool.buffers b.history.entries b (shutting_at id) place port
  pub id_is : port.id ≡ id
  pub can : can_finish (before b) bufs port ≡ true
  pub fits : fits_chain chain ≡ true

pub shutting-here : (b : Inside) (port : PortId) (place : ℕ) (bufs : List ℕ) (chain : Chain) → IsBook b → IsFoundAt (shutting_at port.0) b.ports.items place
    → IsEnabled (before b) (Finish port bufs chain) → IsShuttingHere b port.0 place bufs chain
shutting-here b port place bufs chain k found enabled =
    let pool = b.pool.buffers in
    let h = b.history.entries in
    let parts = and_parts (fits_chain chain) (is_met (can_finish (before b) bufs) (shutting_port (before b).world.ports port.0)) enabled in
    let m = met (can_finish (before b) bufs) (shutting_port (before b).world.ports port.0) parts.1 in
    let at = shutting-place (before b).world.ports _ port.0 m.it (numbers-rise pool h).ports_rise m.found_is in
    record {
      port = m.it;
      here = found-here pool h b (shutting_at port.0) place m.it k.stands found m.found_is;
      id_is = at.id_is;
      can = m.passes;
      fits = parts.0;
    }

pub never-gone : (b : Inside) (port : PortId) (bufs : List ℕ) (chain : Chain) → IsBook b → IsNotFound (shutting_at port.0) b.ports.items
    → IsEnabled (before b) (Finish port bufs chain) → ⊥
never-gone b port bufs chain k none enabled =
    let parts = and_parts (fits_chain chain) (is_met (can_finish (before b) bufs) (shutting_port (before b).world.ports port.0)) enabled in
    let m = met (can_finish (before b) bufs) (shutting_port (before b).world.ports port.0) parts.1 in
    let wrong : Some m.it ≡ None = sym m.found_is ∙ not-found b.pool.buffers b.history.entries b (shutting_at port.0) k.stands none in
    absurd cc

module _ (b : Inside) (port : PortId) (place : ℕ) (bufs : List ℕ) (chain : Chain) (k : IsBook b) (here : IsShuttingHere b port.0 place bufs chain) where
  abbrev pub gone : Port
  gone = here.port

  abbrev pub asked : Ask
  asked = Finish port bufs chain

  abbrev pub outcome : Outcome
  outcome = finish_step (before b) bufs here.port

  -- what holds of its seat
  pub of-gone : (P : Seat → Type 0) → OfSeat P b.ports.items place → P (record { port = here.port; held = here.here.at.held })
  of-gone P all =
      let s = before b in
      let at = here.here.at in
      all (seats_of s.world.ports s.holdings.ports) (record { port = here.port; held = at.held }) k.stands.ports_are (seats-at s.world.ports s.holdings.ports place here.port at.held at.here at.held_here)

  pub of-state : (P : PortState → Type 0) → OfState P b.ports.items place → P here.here.at.state
  of-state P all = all here.here.at.state here.here.at.state_here

  pub finish-made : leases_out here.port ≡ 0 → step (before b) asked ≡ Some outcome
  finish-made quiet =
      let s = before b in
      let can = here.can in
      rw here.fits (ap (finish_step_at s bufs) here.here.found ∙ rw (can, quiet) refl)

  finish-said : reply_to (before b) asked ≡ Some (finish_reply here.port)
  finish-said =
      let s = before b in
      let can = here.can in
      rw here.fits (ap (finish_reply_at s bufs) here.here.found ∙ rw can refl)

  pub said-unread : (count : ℕ) → leases_out here.port ≡ 0 → count ≡ unread_count here.port → reply_to (before b) asked ≡ Some (Unread count)
  said-unread count quiet is =
      let told : finish_reply here.port ≡ Unread (unread_count here.port) = rw quiet refl in
      finish-said ∙ ap (λ (reply : Reply). Some reply) (told ∙ ap Unread (sym is))

  pub said-waits : (n : ℕ) → 0 < n → n ≡ leases_out here.port → reply_to (before b) asked ≡ Some (LeasesOut n)
  said-waits n some is =
      let told : finish_reply here.port ≡ LeasesOut (leases_out here.port) = rw (ne_eqb (leases_out here.port) 0 (λ none. omega (arith, some, is, none))) refl in
      finish-said ∙ ap (λ (reply : Reply). Some reply) (told ∙ ap LeasesOut (sym is))

  -- the session's buffers are as many as it is due
  pub due-here : (capacity : ℕ) → OfState (λ (p : PortState). due_of_state p ≤ capacity) b.ports.items place → length bufs ≤ capacity
  due-here capacity room =
      let s = before b in
      let count = eqb-true (length bufs) (due_of here.port) (and_parts (length bufs == due_of here.port) (holds_all s.holdings here.port.session bufs) here.can).0 in
      let kept = of-state (λ (p : PortState). due_of_state p ≤ capacity) room in
      let seat = here.here.at.is_seat in
      let tx = seat.tx in
      let extra = seat.extra in
      let out = seat.out in
      omega (arith, count, kept, tx, extra, out)

  -- the buffers of its line
  own-indices : (own : List Buffer) → OfSeat (λ (seat : Seat). indices_of own ≡ buffers_at_port seat.held) b.ports.items place
      → indices_of own ≡ buffers_of_port port.0 (before b).holdings.ports
  own-indices own held =
      let at = here.here.at in
      let same : at.held.port ≡ port.0 = at.agrees.id ∙ here.id_is in
      of-gone (λ (seat : Seat). indices_of own ≡ buffers_at_port seat.held) held
      ∙ (sym (buffers_of_port-world b.pool.buffers b.history.entries place at.held k.stands.legal at.held_here)
      ∙ ap (λ (n : ℕ). buffers_of_port n (before b).holdings.ports) same)

  all-indices : (own back : List Buffer) → indices_of back ≡ bufs → OfSeat (λ (seat : Seat). indices_of own ≡ buffers_at_port seat.held) b.ports.items place
      → indices_of (own ++ back) ≡ buffers_of_port port.0 (before b).holdings.ports ++ bufs
  all-indices own back is held =
      map-append (λ (x : Buffer). x.index) own back
      ∙ (ap (λ (ns : List ℕ). ns ++ indices_of back) (own-indices own held) ∙ ap (λ (ns : List ℕ). buffers_of_port port.0 (before b).holdings.ports ++ ns) is)

  pub can-give : (own back : List Buffer) → leases_out here.port ≡ 0 → indices_of back ≡ bufs → OfSeat (λ (seat : Seat). indices_of own ≡ buffers_at_port seat.held) b.ports.items place
      → CanAllBeGiven b.pool (own ++ back)
  can-give own back quiet is held =
      let recorded = step-recorded (before b) asked outcome (finish-made quiet) in
      let follows : Follows (before b) (entry_of asked outcome) = rw recorded refl in
      finishes_give b.pool.buffers b.history.entries (entry_of asked outcome) port bufs chain b.pool (own ++ back) k.stands.legal follows refl refl k.stands.parts_are.free_are (all-indices own back is held)

  pub counted-here : IsSome (counts_of b.tally port.0)
  counted-here = shutting_counted b.pool.buffers b.history.entries b.tally port.0 here.port k.stands.legal k.stands.parts_are.counts_are here.here.found

  abbrev going : ℕ → ℕ → Entry
  going session count = record { session = record { 0 = session }; ask = asked; reply = Unread count }

  pub finish-moves : (next : Inside) (session : SessionId) (count : ℕ) (own back : List Buffer) → leases_out here.port ≡ 0 → indices_of back ≡ bufs
      → HasRoomFor (recorded b) asked outcome
      → AreOf b.region.region back
      → OfState (λ (p : PortState). session.0 ≡ p.session) b.ports.items place
      → OfSeat (λ (seat : Seat). indices_of own ≡ buffers_at_port seat.held) b.ports.items place
      → OfState (λ (p : PortState). own ≡ p.line.idle ++ buffers_of (held_gots p.line.lots)) b.ports.items place
      → OfSeat (λ (seat : Seat). count ≡ unread_count seat.port) b.ports.items place
      → next.history.entries ≡ b.history.entries ++ going session.0 count ∷ []
      → next.history.promised + 1 ≡ b.history.promised
      → next.history.limits ≡ b.history.limits
      → next.ports.items ≡ remove b.ports.items place
      → next.pool ≡ pool_with_all back (pool_with_all own b.pool)
      → next.names ≡ names_without port.0 b.names
      → next.tally ≡ tally_without port.0 b.tally
      → next.sessions ≡ b.sessions → next.tables ≡ b.tables → next.watches ≡ b.watches → next.region ≡ b.region → next.buffers ≡ b.buffers
      → Moves b next asked outcome
  finish-moves next session count own back quiet is room of whose held lines unread entries promised limits ports pool names tally sessions tables watches region buffers =
      let s = before b in
      let at = here.here.at in
      let own_of : AreOf b.region.region own =
      subst (AreOf b.region.region) (sym (of-state (λ (p : PortState). own ≡ p.line.idle ++ buffers_of (held_gots p.line.lots)) lines))
      (each-at (HasBuffersOf b.region.region) b.ports.items place at.state k.lines_are at.state_here) in
      let given : next.pool ≡ pool_with_all (own ++ back) b.pool = pool ∙ sym (with-both b.pool own back) in
      let user : session.0 ≡ here.port.session = of-state (λ (p : PortState). session.0 ≡ p.session) whose ∙ at.is_seat.session in
      let read : count ≡ unread_count here.port = of-gone (λ (seat : Seat). count ≡ unread_count seat.port) unread in
      record {
        step_is = finish-made quiet;
        entries = entries ∙ (ap (λ (n : ℕ). b.history.entries ++ going n count ∷ []) user ∙ ap (λ (n : ℕ). b.history.entries ++ going here.port.session n ∷ []) read);
        limits = limits;
        promised = omega (arith, promised);
        room = room;
        sessions = rw sessions k.stands.sessions_are;
        ports = rw ports (gone_is_gone s.world.ports s.holdings.ports b.ports.items place here.port (ports-rising b.pool.buffers b.history.entries b k.stands) at.here);
        parts = record {
          names_next = names;
          tables_wanted = tt;
          tables_next = rw tables (sym (tables_stay s.world asked (parts_in b).tables refl));
          watches_next = λ other. rw watches refl;
          tally_next = tally;
          free_next = record { given = own ++ back; indices_are = all-indices own back is held; is = given };
        };
        region = region;
        buffers = buffers;
        free_are = subst (λ (p : PoolState). AreOf b.region.region p.free) (sym given)
            (are-with_all b.region.region (own ++ back) b.pool (each-append (λ (x : Buffer). x.region ≡ b.region.region) own back own_of of) k.free_are);
        lines_are = rw ports (each-remove (HasBuffersOf b.region.region) b.ports.items place k.lines_are);
      }

-- and no lease of it is out
pub record IsQuietHere (b : Inside) (port : PortId) (place : ℕ) (bufs : List ℕ) (chain : Chain) : Type 0 where
  pub here : IsShuttingHere b port.0 place bufs chain
  pub quiet : leases_out here.port ≡ 0

pub quiet-here : (b : Inside) (port : PortId) (place : ℕ) (bufs : List ℕ) (chain : Chain) (n : ℕ) → IsBook b → IsFoundAt (shutting_at port.0) b.ports.items place
    → IsEnabled (before b) (Finish port bufs chain) → OfSeat (λ (seat : Seat). n ≡ leases_out seat.port) b.ports.items place → n ≡ 0 → IsQuietHere b port place bufs chain
quiet-here b port place bufs chain n k found enabled out none =
    let here = shutting-here b port place bufs chain k found enabled in
    record { here = here; quiet = sym (of-gone b port place bufs chain k here (λ (seat : Seat). n ≡ leases_out seat.port) out) ∙ none }
