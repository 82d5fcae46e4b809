-- A port is opened.
use Rattle.std.proofs.Common.{ℕ, Bool, true, false, not, ◌≡◌, ◌+◌, ◌≤◌, ◌<◌, List, [], ◌∷◌, ◌++◌, length, map, take, drop, cond, Option, Some, None, refl, sym, ◌∙◌, ap, subst, arith, rules}
use Rattle.std.proofs.lemmas.List.{length-take-le, length-drop}
use Rattle.nm_types.specs.Limits.{most_ports, most_switches}
use Rattle.nm_types.specs.Openings.{finds_switches_full, open_refusal as names_refusal}
use Rattle.nm_types.specs.declared.id.SessionId.{SessionId}
use Rattle.nm_types.specs.declared.fault.OpenFault.{OpenFault}
use Rattle.nm_types.specs.declared.fault.OpenFault.TheVariants.{BadSize, SwitchesFull}
use Rattle.nm_region.specs.Buffers.{Buffer, indices_of}
use Rattle.nm_pool.specs.Free.{PoolState}
use Rattle.nm_count.specs.Tallies.{counts_of, tally_with}
use Rattle.nm_watch.specs.Watching.{Watching, watch_of}
use Rattle.vale_names.specs.declared.port.NamedPort.{NamedPort}
use Rattle.vale_names.specs.Ports.{names_of, fresh_port, Joins}
use Rattle.vale_names.specs.PortNames.{IsNames}
use Rattle.vale_line.specs.Lines.{new_line, out_of}
use Rattle.vale_entry.specs.declared.entry.Ask.TheVariants.{Open}
use Rattle.vale_entry.specs.declared.entry.Reply.TheVariants.{Opened}
use Rattle.vale_entry.specs.World.{World, free_count}
use Rattle.vale_entry.specs.Opening.{are_sizes, names_of as port_names, open_refusal, opened_port, refusal_or_room}
use Rattle.vale_entry.specs.Legal.{Standing, open_step, open_step_by, step, can_open}
use Rattle.vale_entry.specs.Stored.{Fits}
use Rattle.vale_entry.proofs.Each.{each-append, each-drop, each-take}
use Rattle.vale_entry.proofs.Worlds.{count-world_of}
use Rattle.vale_entry.proofs.Roomy.{opened-room}
use Rattle.vale_port.specs.declared.port.Opening.{Opening}
use Rattle.vale_port.specs.Ports.{PortState, IsSeatOf, AreSeatsOf}
use Rattle.vale_port.specs.Seat.{Seat, port_of, seats_of}
use Rattle.vale_port.proofs.LineTies.{line-same, indices-take, indices-drop}
use Rattle.vale_port.proofs.Lists.{seats-ports, open_is_open_among}
use Rattle.vale_parts.specs.Ids.{port_id}
use Rattle.vale_parts.specs.FreeBuffers.{pool_less}
use Rattle.vale_parts.specs.FreeLaws.{IsTakenBack}
use Rattle.vale_parts.proofs.AllParts.{tables_stay}
use Rattle.vale_parts.proofs.FreeKept.{free_counted}
use Rattle.vale_parts.proofs.TakenBack.{taken_back}
use Rattle.vale_parts.proofs.NameAnswers.{openings_answered}
use Rattle.vale_parts.proofs.NameRoom.{openings_undone, openings_room}
use Rattle.vale_parts.proofs.CountsKept.{next_not, as_many}
use Rattle.vale_book.specs.declared.book.Book.TheInside.{Inside}
use Rattle.vale_steps.specs.NamedTables.{table_seen}
use Rattle.nm_region.specs.Regions.{AreOf}
use Rattle.vale_book.specs.BookView.{HasBuffersOf, IsBook}
use Rattle.vale_steps.specs.OpenParts.{HasTableFor, name_of_state, name_of_port, StillTables, StillFew, ComesOut, refusal_for, entry_for, state_for}
use Rattle.vale_book.proofs.Moves.{Moves, before, fits-step}
use Rattle.vale_book.proofs.RingSizes.{none-first}
use Rattle.vale_book.proofs.Standing.{ports-rising}

-- an opening, as the entry that comes after so many makes it
abbrev pub opening_of : ℕ → SessionId → List ℕ → ℕ → ℕ → Opening
opening_of n session name tx extra = record { id = record { 0 = n + 1 }; session = session; name = name; tx = tx; extra = extra }

-- the number of the next entry
pub next-number : (b : Inside) (n : ℕ) → n ≡ length b.history.entries → (before b).world.entry_count + 1 ≡ n + 1
next-number b n is = ap (λ (k : ℕ). k + 1) (count-world_of b.pool.buffers b.history.entries ∙ sym is)

-- ---- What a book's parts promise an opening.

pub comes-out : (b : Inside) (n : ℕ) (name : List ℕ) → IsBook b → n ≡ length b.history.entries → ComesOut (fresh_port name (port_id (n + 1))) b.names
comes-out b n name k is =
    subst (λ (id : ℕ). ComesOut (fresh_port name (port_id id)) b.names) (next-number b n is)
    (λ next joins. openings_undone b.pool.buffers b.history.entries b.names next name k.stands.parts_are.names_are joins)

pub can-go-back : (b : Inside) → IsBook b → (count : ℕ) → IsTakenBack b.pool count
can-go-back b k = λ count. taken_back b.pool.buffers b.history.entries b.pool count k.stands.legal refl k.stands.parts_are.free_are

pub not-counted : (b : Inside) (n : ℕ) → IsBook b → n ≡ length b.history.entries → counts_of b.tally (n + 1) ≡ None
not-counted b n k is =
    ap (counts_of b.tally) (sym (next-number b n is)) ∙ next_not b.pool.buffers b.history.entries b.tally k.stands.legal k.stands.parts_are.counts_are

pub room-to-count : (b : Inside) (port : NamedPort) (names : List NamedPort) → IsBook b → Joins b.names port names → IsNames names → length b.tally < most_ports
room-to-count b port names k joins are =
    let parts = k.stands.parts_are in
    let many = as_many b.pool.buffers b.history.entries b.tally k.stands.legal parts.counts_are in
    let few = openings_room (before b).world b.names names port parts.names_are joins are in
    omega (arith, many, few)

-- ---- What it is answered.

pub refusal-is : (b : Inside) (n : ℕ) (session : SessionId) (name : List ℕ) (tx rx extra : ℕ) → IsBook b
    → open_refusal (before b).world name tx rx extra ≡ refusal_for b.names b.pool.free (opening_of n session name tx extra) rx
refusal-is b n session name tx rx extra k =
    let w = (before b).world in
    let parts = k.stands.parts_are in
    let count : length b.pool.free ≡ free_count w = free_counted b.pool.buffers b.history.entries b.pool k.stands.legal parts.free_are in
    openings_answered w b.names name tx rx extra parts.names_are
    ∙ ap (λ (have : ℕ). refusal_or_room (names_refusal (names_of b.names) name tx rx extra) (tx + rx + extra) have) (sym count)

pub open-made : (s : Standing) (session : SessionId) (name : List ℕ) (tx rx extra : ℕ) (refusal : Option OpenFault)
    → can_open s.world session.0 name tx rx extra ≡ true → open_refusal s.world name tx rx extra ≡ refusal
    → step s (Open session name tx rx extra) ≡ Some (open_step_by refusal s session.0 name tx rx extra)
open-made s session name tx rx extra refusal can is =
    ap (λ (b : Bool). cond b (Some (open_step s session.0 name tx rx extra)) None) can
    ∙ ap (λ (r : Option OpenFault). Some (open_step_by r s session.0 name tx rx extra)) is

-- ---- The tables.

names-of : (seats : List Seat) (ps : List PortState) → AreSeatsOf seats ps → map name_of_state ps ≡ map name_of_port (map port_of seats)
names-of [] [] are = refl
names-of [] (p ∷ ps) are = absurd are
names-of (s ∷ ss) [] are = absurd are
names-of (s ∷ ss) (p ∷ ps) are =
    ap (λ (name : List ℕ). name ∷ map name_of_state ps) are.0.name ∙ ap (λ (names : List (List ℕ)). s.port.name ∷ names) (names-of ss ps are.1)

names-agree : (b : Inside) → IsBook b → map name_of_state b.ports.items ≡ map name_of_port (before b).world.ports
names-agree b k =
    let s = before b in
    let are = ports-rising b.pool.buffers b.history.entries b k.stands in
    names-of (seats_of s.world.ports s.holdings.ports) b.ports.items are.stand ∙ ap (map name_of_port) (seats-ports s.world.ports s.holdings.ports are.agree)

-- the book with other tables
abbrev pub with_tables : Inside → Inside → Inside
with_tables b next = record b { tables = next.tables }

-- an opening that is not refused does not find as many switches as there may be
switches-left : (w : World) (name : List ℕ) (tx rx extra : ℕ) → open_refusal w name tx rx extra ≡ None → finds_switches_full (port_names w.ports) name ≡ false
switches-left w name tx rx extra none =
    let refusal = none-first (names_refusal (port_names w.ports) name tx rx extra) (tx + rx + extra) (free_count w) none in
    by_full (are_sizes name tx rx extra) (finds_switches_full (port_names w.ports) name) _ refusal
  where
    by_full : (sizes full : Bool) (rest : Option OpenFault) → cond (not sizes) (Some BadSize) (cond full (Some SwitchesFull) rest) ≡ None → full ≡ false
    by_full true true rest is = absurd cc
    by_full true false rest is = refl
    by_full false full rest is = absurd cc

pub tables-few : (b next : Inside) (n : ℕ) (session : SessionId) (name : List ℕ) (tx rx extra : ℕ) → IsBook b
    → refusal_for b.names b.pool.free (opening_of n session name tx extra) rx ≡ None → StillFew name b.ports.items b.tables.items next.tables.items
    → length next.tables.items ≤ most_switches
tables-few b next n session name tx rx extra k none few =
    few b.pool.buffers b.history.entries (names-agree b k) k.stands.parts_are.tables_are
    (switches-left (before b).world name tx rx extra (refusal-is b n session name tx rx extra k ∙ none)) k.tables_few

pub tables-kept : (b next : Inside) → IsBook b → StillTables b.ports.items b.tables.items next.tables.items → length next.tables.items ≤ most_switches → IsBook (with_tables b next)
tables-kept b next k kept few =
    let tables = kept b.pool.buffers b.history.entries (names-agree b k) k.stands.parts_are.tables_are in
    search rules

-- ---- The port.

idle-length : (free : List Buffer) (tx rx extra : ℕ) → tx + rx + extra ≤ length free → length (take rx (drop tx free)) ≡ rx
idle-length free tx rx extra enough =
    let left = length-drop tx free in
    let fits : rx ≤ length (drop tx free) = omega (arith, left, enough) in
    length-take-le rx (drop tx free) fits

pub front-is : (free : List Buffer) (held : List ℕ) (n : ℕ) → indices_of free ≡ held → indices_of (take n free) ≡ take n held
front-is free held n are = indices-take n free ∙ ap (take n) are

pub idle-is : (free : List Buffer) (held : List ℕ) (tx rx : ℕ) → indices_of free ≡ held → indices_of (take rx (drop tx free)) ≡ take rx (drop tx held)
idle-is free held tx rx are = indices-take rx (drop tx free) ∙ ap (take rx) (indices-drop tx free ∙ ap (drop tx) are)

seat-opened : (n id : ℕ) (session : SessionId) (name : List ℕ) (tx rx extra : ℕ) (free : List Buffer) (held : List ℕ) → n + 1 ≡ id → indices_of free ≡ held → tx + rx + extra ≤ length free
    → IsSeatOf (record { port = opened_port id session.0 name tx rx extra; held = record { port = id; idle = take rx (drop tx held); lots = [] } }) (state_for (opening_of n session name tx extra) rx free)
seat-opened n id session name tx rx extra free held same are enough =
    let none : out_of (new_line (take rx (drop tx free))) ≡ 0 = omega arith in
    let line = line-same {ls = []} (idle-length free tx rx extra enough) (idle-is free held tx rx are) refl in
    search rules

-- ---- The step.

pub open-moves : (b next : Inside) (n : ℕ) (session : SessionId) (name : List ℕ) (tx rx extra : ℕ) → IsBook b → can_open (before b).world session.0 name tx rx extra ≡ true
    → n ≡ length b.history.entries → refusal_for b.names b.pool.free (opening_of n session name tx extra) rx ≡ None
    → Joins b.names (fresh_port name (port_id (n + 1))) next.names
    → next.history.entries ≡ b.history.entries ++ entry_for (opening_of n session name tx extra) rx Opened ∷ []
    → next.history.promised ≡ b.history.promised + 2 → next.history.limits ≡ b.history.limits → Fits b.history 3 0
    → HasTableFor name next.tables.items → StillTables b.ports.items b.tables.items next.tables.items → StillFew name b.ports.items b.tables.items next.tables.items
    → next.ports.items ≡ b.ports.items ++ state_for (opening_of n session name tx extra) rx b.pool.free ∷ []
    → next.pool ≡ pool_less (tx + rx + extra) b.pool → next.tally ≡ tally_with (port_id (n + 1)) b.tally
    → next.sessions.items ≡ b.sessions.items → next.watches ≡ b.watches → next.region ≡ b.region → next.buffers ≡ b.buffers
    → Moves (with_tables b next) next (Open session name tx rx extra) (open_step_by None (before b) session.0 name tx rx extra)
open-moves b next n session name tx rx extra k can is none joins entries promised limits fits there kept few ports pool tally sessions watches region buffers =
    let s = before b in
    let ask = Open session name tx rx extra in
    let free = b.pool.free in
    let number : s.world.entry_count + 1 ≡ n + 1 = next-number b n is in
    let refused : open_refusal s.world name tx rx extra ≡ None = refusal-is b n session name tx rx extra k ∙ none in
    let count : length free ≡ free_count s.world = free_counted b.pool.buffers b.history.entries b.pool k.stands.legal k.stands.parts_are.free_are in
    let room = (opened-room s.world name tx rx extra refused).0 in
    let enough : tx + rx + extra ≤ length free = omega (arith, room, count) in
    let whole = tables-kept b next k kept (tables-few b next n session name tx rx extra k none few) in
    let state = state_for (opening_of n session name tx extra) rx free in
    let taken : AreOf b.region.region (take rx (drop tx free)) = each-take (λ (buf : Buffer). buf.region ≡ b.region.region) rx (drop tx free) (each-drop (λ (buf : Buffer). buf.region ≡ b.region.region) tx free k.free_are) in
    record {
      step_is = open-made s session name tx rx extra None can refused;
      entries = entries;
      limits = limits;
      promised = omega (arith, promised);
      room = fits-step (with_tables b next) ask (open_step_by None s session.0 name tx rx extra) whole fits;
      sessions = rw sessions k.stands.sessions_are;
      ports = rw ports (open_is_open_among s.world.ports s.holdings.ports b.ports.items (opened_port (s.world.entry_count + 1) session.0 name tx rx extra)
          (record { port = s.world.entry_count + 1; idle = take rx (drop tx s.holdings.free); lots = [] }) state (ports-rising b.pool.buffers b.history.entries b k.stands)
          (seat-opened n (s.world.entry_count + 1) session name tx rx extra free s.holdings.free (sym number) k.stands.parts_are.free_are enough));
      parts = record {
        names_next = subst (λ (id : ℕ). Joins b.names (fresh_port name (port_id id)) next.names) (sym number) joins;
        tables_wanted = there;
        tables_next = sym (tables_stay s.world ask (map table_seen next.tables.items) refl);
        watches_next = λ port. ap (λ (w : Watching). watch_of w port) watches;
        tally_next = tally ∙ ap (λ (id : ℕ). tally_with (port_id id) b.tally) (sym number);
        free_next = pool;
      };
      region = region;
      buffers = buffers;
      free_are = subst (λ (p : PoolState). AreOf b.region.region p.free) (sym pool) (each-drop (λ (buf : Buffer). buf.region ≡ b.region.region) (tx + rx + extra) free k.free_are);
      lines_are = rw ports (each-append (HasBuffersOf b.region.region) b.ports.items (state ∷ []) k.lines_are (each-append (λ (buf : Buffer). buf.region ≡ b.region.region) (take rx (drop tx free)) [] taken tt, tt));
    }
