-- A lease that is completed: what it makes of a book.
use Rattle.std.proofs.Common.{ℕ, zero, suc, Bool, true, false, not, cond, ◌≡◌, ◌≤◌, ◌<◌, ◌+◌, ◌-◌, ◌==◌, List, [], ◌∷◌, ◌++◌, length, map, find, flat_map, slice_get, slice_set, Option, Some, None, option_map, refl, sym, ◌∙◌, ap, subst, arith}
use Rattle.std.specs.List.{AllByRecursion as Each}
use Rattle.std.proofs.lemmas.Bool.{eq-eqb, eqb-true, and_parts}
use Rattle.std.proofs.lemmas.Option.{slice_get_within}
use Rattle.nm_types.specs.declared.id.SessionId.{SessionId}
use Rattle.nm_types.proofs.Lists.{each-front}
use Rattle.vale_line.specs.declared.got.Got.{Got}
use Rattle.vale_line.specs.Leased.{Leased, buffer_count}
use Rattle.vale_line.specs.Gots.{buffers_of}
use Rattle.vale_line.specs.Lines.{HeldLot, completed, held_gots, slots_out}
use Rattle.vale_entry.specs.declared.entry.Ask.TheVariants.{Done}
use Rattle.vale_entry.specs.declared.entry.Reply.TheVariants.{Made}
use Rattle.vale_entry.specs.declared.entry.Entry.{Entry}
use Rattle.vale_entry.specs.World.{Port, Lot}
use Rattle.vale_entry.specs.Delivery.{is_lease, line_of, lease_at}
use Rattle.vale_entry.specs.Delivered.{port_at, has_id}
use Rattle.vale_entry.specs.Holdings.{PortBuffers}
use Rattle.vale_entry.specs.Legal.{step, done_step}
use Rattle.vale_entry.specs.Laws.{Rise, id_of_port, IsOfEntry}
use Rattle.vale_entry.proofs.Each.{each-find, each-append}
use Rattle.vale_entry.proofs.HistoryLaws.{lots-single}
use Rattle.vale_entry.proofs.ListLaws.{place-of, each-at, each-set}
use Rattle.vale_entry.proofs.LotsOfEntries.{lots-of_entries}
use Rattle.vale_entry.proofs.PortAt.{find-append, first_of}
use Rattle.vale_entry.proofs.Rising.{rise-slice_get}
use Rattle.vale_port.specs.Laws.{with_line}
use Rattle.vale_port.specs.Lists.{IsFoundAt, IsNotFound, OfState, ChangesSeatIf, StandsAt}
use Rattle.vale_port.specs.Ports.{PortState, IsFilledFor}
use Rattle.vale_port.specs.Seat.{Seat, LotSeat, seat_done, lease_among}
use Rattle.vale_port.proofs.Lists.{done_is_done_among}
use Rattle.vale_port.proofs.SeatTies.{filled_is_out}
use Rattle.vale_book.specs.declared.book.Book.TheInside.{Inside}
use Rattle.nm_region.specs.Regions.{IsBufferOf, AreOf}
use Rattle.vale_book.specs.BookView.{parts_in, number_of_session, HasBuffersOf, IsBook}
use Rattle.vale_steps.specs.Granting.{lease_id}
use Rattle.vale_steps.specs.Offering.{IsFilledIn}
use Rattle.vale_book.proofs.Moves.{Moves, before, owed-room, owed-promised, parts-stay, free-same}
use Rattle.vale_book.proofs.PortLines.{IsLotOf, lots-of, of-lots, held-of}
use Rattle.vale_book.proofs.Standing.{ports-rising, found-some, not-found}

-- ---- the port of a lease

some-same : {A : Type 0} {x y : A} → Some x ≡ Some y → x ≡ y
some-same e = cc

-- ids tell places apart
same-place : (low : ℕ) (ports : List Port) (high i j : ℕ) (p q : Port) → Rise low (map id_of_port ports) high → slice_get ports i ≡ Some p → slice_get ports j ≡ Some q → p.id ≡ q.id → i ≡ j
same-place low [] high i j p q r e f same = absurd cc
same-place low (x ∷ xs) high zero zero p q r e f same = refl
same-place low (x ∷ xs) high zero (suc j) p q r e f same =
    let first : x ≡ p = cc in
    let behind = rise-slice_get id_of_port x.id xs high j q r.1 f in
    let id : x.id ≡ q.id = ap id_of_port first ∙ same in
    absurd (omega (arith, behind.0, id))
same-place low (x ∷ xs) high (suc i) zero p q r e f same =
    let first : x ≡ q = cc in
    let behind = rise-slice_get id_of_port x.id xs high i p r.1 e in
    let id : x.id ≡ p.id = ap id_of_port first ∙ sym same in
    absurd (omega (arith, behind.0, id))
same-place low (x ∷ xs) high (suc i) (suc j) p q r e f same = ap suc (same-place x.id xs high i j p q r.1 e f same)

-- the place that the search finds is that of the lease's port
pub record IsLeaseAt (b : Inside) (lease : Leased) (place : ℕ) : Type 0 where
  pub port : Port
  pub at : StandsAt (before b).world.ports (before b).holdings.ports b.ports.items place port
  pub filled : IsFilledFor (record { port = port; held = at.held }) lease

pub lease-here : (b : Inside) (lease : Leased) (place : ℕ) → IsBook b → IsFilledIn (before b) lease → IsFoundAt (λ (all : List Port). port_at all lease.to) b.ports.items place → IsLeaseAt b lease place
lease-here b lease place k filled found =
    let search' : List Port → Option Port = λ all. port_at all lease.to in
    let there = found-some b.pool.buffers b.history.entries b search' place k.stands found in
    let are = ports-rising b.pool.buffers b.history.entries b k.stands in
    let w = (before b).world in
    let x = (before b).holdings in
    let match = place-of (has_id lease.to) w.ports there.port there.here.found in
    let id : there.port.id ≡ filled.seat.port.id = eqb-true there.port.id lease.to match.passes ∙ filled.to in
    let same : place ≡ filled.at.place = same-place 0 w.ports are.high place filled.at.place there.port filled.seat.port are.rise there.here.at.here filled.at.port_here id in
    let port_here : slice_get w.ports place ≡ Some filled.seat.port = subst (λ (i : ℕ). slice_get w.ports i ≡ Some filled.seat.port) (sym same) filled.at.port_here in
    let held_here : slice_get x.ports place ≡ Some filled.seat.held = subst (λ (i : ℕ). slice_get x.ports i ≡ Some filled.seat.held) (sym same) filled.at.held_here in
    let port : filled.seat.port ≡ there.port = some-same (sym port_here ∙ there.here.at.here) in
    let held : filled.seat.held ≡ there.here.at.held = some-same (sym held_here ∙ there.here.at.held_here) in
    record {
      port = there.port;
      at = there.here.at;
      filled = subst (λ (h : PortBuffers). IsFilledFor (record { port = there.port; held = h }) lease) held
          (subst (λ (p : Port). IsFilledFor (record { port = p; held = filled.seat.held }) lease) port filled.filled);
    }

-- ---- its lot

lot-found : (number : ℕ) (lots : List Lot) (lists : List (List ℕ)) (x : LotSeat) → lease_among number lots lists ≡ Some x → (lot : Lot) × (find (is_lease number) lots ≡ Some lot)
lot-found number [] lists x e = absurd cc
lot-found number (lot ∷ lots) [] x e = absurd cc
lot-found number (lot ∷ lots) (list ∷ lists) x e = by_test (is_lease number lot) (lot-found number lots lists x) e
  where
    by_test : (b : Bool) → (lease_among number lots lists ≡ Some x → (found : Lot) × (find (is_lease number) lots ≡ Some found))
        → cond b (let y : LotSeat = record { lot = lot; buffers = list } in Some y) (lease_among number lots lists) ≡ Some x → (found : Lot) × (cond b (Some lot) (find (is_lease number) lots) ≡ Some found)
    by_test true later e = (lot, refl)
    by_test false later e = later e

some-of : {A B : Type 0} (f : A → B) (o : Option A) (y : B) → option_map f o ≡ Some y → (x : A) × (o ≡ Some x)
some-of f None y e = absurd cc
some-of f (Some x) y e = (x, refl)

first-some : {X : Type 0} (first later : Option X) (x : X) → later ≡ Some x → (y : X) × (first_of first later ≡ Some y)
first-some None later x e = (x, e)
first-some (Some y) later x e = (y, refl)

some-first : {X : Type 0} (first later : Option X) (x : X) → first ≡ Some x → (y : X) × (first_of first later ≡ Some y)
some-first None later x e = absurd cc
some-first (Some y) later x e = (y, refl)

lot-among : (number : ℕ) (ports : List Port) (place : ℕ) (port : Port) (lot : Lot) → slice_get ports place ≡ Some port → find (is_lease number) port.line ≡ Some lot
    → (found : Lot) × (lease_at ports number ≡ Some found)
lot-among number [] place port lot e f = absurd cc
lot-among number (p ∷ ps) zero port lot e f =
    let same : p ≡ port = cc in
    let mine : find (is_lease number) p.line ≡ Some lot = subst (λ (q : Port). find (is_lease number) q.line ≡ Some lot) (sym same) f in
    let some = some-first (find (is_lease number) p.line) (lease_at ps number) lot mine in
    (some.0, find-append (is_lease number) p.line (flat_map line_of ps) ∙ some.1)
lot-among number (p ∷ ps) (suc place) port lot e f =
    let rest = lot-among number ps place port lot e f in
    let some = first-some (find (is_lease number) p.line) (lease_at ps number) rest.0 rest.1 in
    (some.0, find-append (is_lease number) p.line (flat_map line_of ps) ∙ some.1)

each-flat : (P : Lot → Type 0) (ports : List Port) → Each (λ (port : Port). Each P port.line) ports → Each P (flat_map line_of ports)
each-flat P [] all = tt
each-flat P (p ∷ ps) all = each-append P p.line (flat_map line_of ps) all.0 (each-flat P ps all.1)

-- the lot of a lease, and the entry that granted it
pub record IsOwed (b : Inside) (lease : Leased) : Type 0 where
  pub lot : Lot
  pub lot_is : lease_at (before b).world.ports lease.id ≡ Some lot
  pub entry : Entry
  pub first : 0 < lease.id
  pub here : slice_get b.history.entries (lease.id - 1) ≡ Some entry
  pub session : entry.session.0 ≡ lot.session
  pub step_is : step (before b) (Done (lease_id lease.id)) ≡ Some (done_step (before b) lease.id lot)

pub lease-owed : (b : Inside) (lease : Leased) (place : ℕ) → IsBook b → IsLeaseAt b lease place → IsOwed b lease
lease-owed b lease place k l =
    let w = (before b).world in
    let seat = some-of _ (lease_among lease.id l.port.line l.at.held.lots) _ l.filled in
    let own = lot-found lease.id l.port.line l.at.held.lots seat.0 seat.1 in
    let lot = lot-among lease.id w.ports place l.port own.0 l.at.here own.1 in
    let match = place-of (is_lease lease.id) (flat_map line_of w.ports) lot.0 lot.1 in
    let number : (lot.0).number ≡ lease.id = eqb-true (lot.0).number lease.id (and_parts ((lot.0).number == lease.id) (not (lot.0).is_done) match.passes).0 in
    let of = each-find (IsOfEntry b.history.entries) (is_lease lease.id) (flat_map line_of w.ports) lot.0
    (each-flat (IsOfEntry b.history.entries) w.ports (lots-of_entries b.pool.buffers b.history.entries k.stands.legal)) lot.1 in
    record {
      lot = lot.0;
      lot_is = lot.1;
      entry = of.entry;
      first = subst (λ (n : ℕ). 0 < n) number of.counted;
      here = subst (λ (n : ℕ). slice_get b.history.entries (n - 1) ≡ Some of.entry) number of.here;
      session = of.session;
      step_is = ap (option_map (done_step (before b) lease.id)) lot.1;
    }

-- ---- the port with its lot complete

done-lots : (region id : ℕ) (filled : List Got) (lots : List HeldLot) → AreOf region (buffers_of filled) → Each (IsLotOf region) lots → Each (IsLotOf region) (map (completed id filled) lots)
done-lots region id filled [] of all = tt
done-lots region id filled (lot ∷ lots) of all = (by_test (lot.id.0 == id), done-lots region id filled lots of all.1)
  where
    by_test : (b : Bool) → IsLotOf region (cond b (record lot { gots = Some filled }) lot)
    by_test true = of
    by_test false = all.0

done-of : (region id : ℕ) (filled : List Got) (p : PortState) → AreOf region (buffers_of filled) → HasBuffersOf region p
    → HasBuffersOf region (with_line (record p.line { lots = map (completed id filled) p.line.lots }) p)
done-of region id filled p of all =
    let own = IsBufferOf region in
    each-append own p.line.idle (buffers_of (held_gots (map (completed id filled) p.line.lots)))
    (each-front own p.line.idle (buffers_of (held_gots p.line.lots)) all)
    (of-lots region (map (completed id filled) p.line.lots) (done-lots region id filled p.line.lots of (lots-of region p.line.lots (held-of region p all))))

pub lot-out : (b : Inside) (lease : Leased) (place : ℕ) → IsBook b → (l : IsLeaseAt b lease place) → lease.empty ≡ []
    → OfState (λ (p : PortState). slots_out lease.id p.line.lots ≡ Some (buffer_count lease)) b.ports.items place
lot-out b lease place k l empty = λ p here.
    subst (λ (q : PortState). slots_out lease.id q.line.lots ≡ Some (buffer_count lease)) (some-same (sym l.at.state_here ∙ here))
    (filled_is_out (record { port = l.port; held = l.at.held }) l.at.state lease l.at.is_seat l.at.agrees l.filled empty).0

pub lease-old : (b : Inside) (lease : Leased) → IsOwed b lease → lease.id ≤ length b.history.entries
lease-old b lease o =
    let within = slice_get_within b.history.entries (lease.id - 1) o.entry o.here in
    let first = o.first in
    omega (arith, within, first)

-- ---- the step

abbrev session_id : ℕ → SessionId
session_id n = record { 0 = n }

abbrev done_entry : SessionId → ℕ → Entry
done_entry session id = record { session = session; ask = Done (lease_id id); reply = Made }

pub done-moves : (b next : Inside) (lease : Leased) (place : ℕ) → IsBook b → (l : IsLeaseAt b lease place) → (o : IsOwed b lease) → AreOf b.region.region (buffers_of lease.filled)
    → next.history.entries ≡ b.history.entries ++ done_entry o.entry.session lease.id ∷ [] → next.history.promised + 1 ≡ b.history.promised → next.history.limits ≡ b.history.limits
    → ChangesSeatIf (λ (seat : Seat). IsFilledFor seat lease) (seat_done lease.id) b.ports.items place next.ports.items
    → OfState (λ (p : PortState). next.ports.items ≡ slice_set b.ports.items place (with_line (record p.line { lots = map (completed lease.id lease.filled) p.line.lots }) p)) b.ports.items place
    → next.sessions.items ≡ b.sessions.items → parts_in next ≡ parts_in b → next.region ≡ b.region → next.buffers ≡ b.buffers
    → Moves b next (Done (lease_id lease.id)) (done_step (before b) lease.id o.lot)
done-moves b next lease place k l o of entries promised limits seats lots sessions parts region buffers =
    let w = (before b).world in
    let x = (before b).holdings in
    let pool = b.pool.buffers in
    let h = b.history.entries in
    let id : o.entry.session ≡ session_id o.lot.session = ap session_id o.session in
    let p = l.at.state in
    record {
      step_is = o.step_is;
      entries = entries ∙ ap (λ (s : SessionId). h ++ done_entry s lease.id ∷ []) id;
      limits = limits;
      promised = omega (arith, promised);
      room = owed-room b (Done (lease_id lease.id)) (done_step (before b) lease.id o.lot) k refl o.step_is;
      sessions = ap (map number_of_session) sessions ∙ k.stands.sessions_are;
      ports = done_is_done_among w.ports x.ports b.ports.items next.ports.items place lease l.port l.at.held (ports-rising pool h b k.stands) (lots-single pool h k.stands.legal)
          l.at.here l.at.held_here l.filled seats;
      parts = rw parts (parts-stay (before b) (Done (lease_id lease.id)) Made (parts_in b) refl);
      region = region;
      buffers = buffers;
      free_are = free-same b next parts k.free_are;
      lines_are = subst (Each (HasBuffersOf b.region.region)) (sym (lots p l.at.state_here))
          (each-set (HasBuffersOf b.region.region) b.ports.items place (with_line (record p.line { lots = map (completed lease.id lease.filled) p.line.lots }) p) k.lines_are
          (done-of b.region.region lease.id lease.filled p of (each-at (HasBuffersOf b.region.region) b.ports.items place p k.lines_are l.at.state_here)));
    }

-- ---- a lease that is filled has a port

none-here : (id : ℕ) (p : Port) (rest : Option Port) (b : Bool) → has_id id p ≡ b → cond b (Some p) rest ≡ None → (has_id id p ≡ false) × (rest ≡ None)
none-here id p rest true is none = absurd cc
none-here id p rest false is none = (is, none)

none-there : (id : ℕ) (ports : List Port) (place : ℕ) (port : Port) → port_at ports id ≡ None → slice_get ports place ≡ Some port → port.id ≡ id → ⊥
none-there id [] place port none here is = absurd cc
none-there id (p ∷ ps) zero port none here is =
    let same : p ≡ port = cc in
    let passes : has_id id p ≡ true = eq-eqb p.id id (ap id_of_port same ∙ is) in
    let other = none-here id p (port_at ps id) (has_id id p) refl none in
    let wrong : true ≡ false = sym passes ∙ other.0 in
    absurd cc
none-there id (p ∷ ps) (suc place) port none here is =
    let other = none-here id p (port_at ps id) (has_id id p) refl none in
    none-there id ps place port other.1 here is

pub lease-there : (b : Inside) (lease : Leased) → IsBook b → IsFilledIn (before b) lease → IsNotFound (λ (all : List Port). port_at all lease.to) b.ports.items → ⊥
lease-there b lease k filled none =
    none-there lease.to (before b).world.ports filled.at.place filled.seat.port
    (not-found b.pool.buffers b.history.entries b (λ (all : List Port). port_at all lease.to) k.stands none) filled.at.port_here (sym filled.to)

-- its room was promised
pub done-promised : (b : Inside) (lease : Leased) → IsBook b → IsOwed b lease → 0 < b.history.promised
done-promised b lease k o = owed-promised b (Done (lease_id lease.id)) (done_step (before b) lease.id o.lot) k o.step_is refl
