-- A port is shut.
use Rattle.std.proofs.Common.{ℕ, Bool, true, false, List, [], ◌∷◌, ◌++◌, ◌≡◌, ◌+◌, map, Option, Some, None, slice_get, slice_set, option_map, refl, sym, ◌∙◌, ap, subst, arith}
use Rattle.std.specs.Prelude.{position, IsSome}
use Rattle.std.proofs.lemmas.List.{map-set}
use Rattle.std.proofs.lemmas.Option.{slice_get-map}
use Rattle.nm_types.specs.Names.{switch_of, is_switch_port_name}
use Rattle.nm_types.specs.declared.id.PortId.{PortId}
use Rattle.nm_types.specs.declared.id.SessionId.{SessionId}
use Rattle.nm_watch.specs.Watching.{watch_of, watch_after_forget}
use Rattle.vale_names.specs.Ports.{shut_in}
use Rattle.vale_entry.specs.declared.entry.Ask.TheVariants.{Shut}
use Rattle.vale_entry.specs.declared.entry.Reply.TheVariants.{Made}
use Rattle.vale_entry.specs.declared.entry.Entry.{Entry}
use Rattle.vale_entry.specs.Legal.{Outcome, step, made_at, can_shut, shut_step, shut_step_at}
use Rattle.vale_entry.proofs.ListLaws.{each-at, each-set}
use Rattle.vale_parts.specs.SwitchTables.{has_table, tables_after}
use Rattle.vale_parts.proofs.AllParts.{shuts_empty, other_shuts}
use Rattle.vale_port.specs.Lists.{ChangesSeat, OfState}
use Rattle.vale_port.specs.Ports.{PortState}
use Rattle.vale_port.specs.Seat.{seat_shut}
use Rattle.vale_port.proofs.Lists.{shut_is_shut}
use Rattle.vale_book.specs.declared.book.Book.TheInside.{Inside}
use Rattle.vale_steps.specs.declared.tables.NamedTable.{NamedTable}
use Rattle.vale_steps.specs.NamedTables.{table_seen}
use Rattle.vale_book.specs.BookView.{recorded, HasBuffersOf, IsBook}
use Rattle.vale_own.specs.Recorded.{HasRoomFor}
use Rattle.vale_steps.specs.NamedTables.{is_for_switch, without_port, IsForgottenOn}
use Rattle.vale_book.proofs.Moves.{Moves, before}
use Rattle.vale_book.proofs.Standing.{ports-rising}
use Rattle.vale_book.proofs.Found.{IsOpenHere, session-here}
use Rattle.vale_steps.proofs.NamedTables.{table-none}

-- the open port that is to be shut
abbrev pub ShutsAt : Inside → PortId → ℕ → Type 0
ShutsAt b port place = IsOpenHere b port.0 place (can_shut (before b).world)

abbrev pub shut_made : (b : Inside) (port : PortId) (place : ℕ) → ShutsAt b port place → Outcome
shut_made b port place here = shut_step (before b) here.port

pub shut-made : (b : Inside) (port : PortId) (place : ℕ) (here : ShutsAt b port place) → step (before b) (Shut port) ≡ Some (shut_made b port place here)
shut-made b port place here =
    let s = before b in
    let passes = here.passes in
    let made : made_at (can_shut s.world) (shut_step s) (Some here.port) ≡ Some (shut_step s here.port) = rw passes refl in
    ap (shut_step_at s) here.here.found ∙ made

pub name-here : (b : Inside) (port : PortId) (place : ℕ) (here : ShutsAt b port place) (name : List ℕ) → OfState (λ (p : PortState). name ≡ p.name) b.ports.items place → name ≡ here.port.name
name-here b port place here name is = is here.here.at.state here.here.at.state_here ∙ here.here.at.is_seat.name

-- a port of a switch has its table
pub table-there : (b : Inside) (port : PortId) (place : ℕ) (here : ShutsAt b port place) (name : List ℕ) → IsBook b → OfState (λ (p : PortState). name ≡ p.name) b.ports.items place
    → is_switch_port_name name ≡ true → IsSome (position (is_for_switch (switch_of name)) b.tables.items)
table-there b port place here name k named is = by_place (position (is_for_switch (switch_of name)) b.tables.items) refl
  where
    by_place : (found : Option ℕ) → position (is_for_switch (switch_of name)) b.tables.items ≡ found → IsSome found
    by_place (Some at) found = refl
    by_place None none =
        let same = name-here b port place here name named in
        let on : is_switch_port_name here.port.name ≡ true = ap is_switch_port_name (sym same) ∙ is in
        let there = each-at _ (before b).world.ports place here.port k.stands.parts_are.tables_are.there here.here.at.here on in
        let missing : has_table (switch_of here.port.name) (map table_seen b.tables.items) ≡ false =
        ap (λ (n : List ℕ). has_table (switch_of n) (map table_seen b.tables.items)) (sym same) ∙ table-none (switch_of name) b.tables.items none in
        let wrong : true ≡ false = sym there ∙ missing in
        absurd cc

tables-shut : (b : Inside) (port : PortId) (place : ℕ) (here : ShutsAt b port place) (tables : List NamedTable) → IsBook b
    → (is_switch_port_name here.port.name ≡ true → IsForgottenOn (switch_of here.port.name) port b.tables.items tables)
    → (is_switch_port_name here.port.name ≡ false → tables ≡ b.tables.items)
    → map table_seen tables ≡ tables_after (before b).world (Shut port) (map table_seen b.tables.items)
tables-shut b port place here tables k switch other = by_kind (is_switch_port_name here.port.name) refl
  where
    by_kind : (kind : Bool) → is_switch_port_name here.port.name ≡ kind → map table_seen tables ≡ tables_after (before b).world (Shut port) (map table_seen b.tables.items)
    by_kind true on =
        let f = switch on in
        let seen : slice_get (map table_seen b.tables.items) f.place ≡ Some (table_seen f.table) = slice_get-map table_seen b.tables.items f.place ∙ ap (option_map table_seen) f.here in
        ap (map table_seen) f.is ∙ (map-set table_seen b.tables.items f.place (without_port port f.table)
        ∙ sym (shuts_empty (before b).world port here.port (map table_seen b.tables.items) f.place (table_seen f.table) k.stands.parts_are.tables_are here.here.found on seen f.its))
    by_kind false off = ap (map table_seen) (other off) ∙ sym (other_shuts (before b).world port here.port (map table_seen b.tables.items) here.here.found off)

abbrev shutting : PortId → SessionId → Entry
shutting port session = record { session = session; ask = Shut port; reply = Made }

abbrev numbered : ℕ → SessionId
numbered n = record { 0 = n }

pub shut-moves : (b next : Inside) (port : PortId) (place : ℕ) (here : ShutsAt b port place) (session : SessionId) (name : List ℕ) → IsBook b
    → HasRoomFor (recorded b) (Shut port) (shut_made b port place here)
    → OfState (λ (p : PortState). session.0 ≡ p.session) b.ports.items place
    → OfState (λ (p : PortState). name ≡ p.name) b.ports.items place
    → next.history.entries ≡ b.history.entries ++ shutting port session ∷ []
    → next.history.promised + 1 ≡ b.history.promised
    → next.history.limits ≡ b.history.limits
    → ChangesSeat seat_shut b.ports.items place next.ports.items
    → OfState (λ (p : PortState). next.ports.items ≡ slice_set b.ports.items place (record p { shutting = true })) b.ports.items place
    → next.names ≡ shut_in port.0 b.names
    → ((other : ℕ) → watch_of next.watches other ≡ watch_after_forget b.watches port other)
    → (is_switch_port_name name ≡ true → IsForgottenOn (switch_of name) port b.tables.items next.tables.items)
    → (is_switch_port_name name ≡ false → next.tables.items ≡ b.tables.items)
    → next.sessions ≡ b.sessions → next.tally ≡ b.tally → next.pool ≡ b.pool → next.region ≡ b.region → next.buffers ≡ b.buffers
    → Moves b next (Shut port) (shut_made b port place here)
shut-moves b next port place here session name k room own named entries promised limits seats state names watches switch other sessions tally pool region buffers =
    let s = before b in
    let at = here.here.at in
    let same = name-here b port place here name named in
    let whose : session.0 ≡ here.port.session = sym (session-here b port.0 place (can_shut s.world) here session own) in
    record {
      step_is = shut-made b port place here;
      entries = entries ∙ ap (λ (n : ℕ). b.history.entries ++ shutting port (numbered n) ∷ []) whose;
      limits = limits;
      promised = omega (arith, promised);
      room = room;
      sessions = rw sessions k.stands.sessions_are;
      ports = shut_is_shut s.world.ports s.holdings.ports b.ports.items next.ports.items place here.port at.held (ports-rising b.pool.buffers b.history.entries b k.stands) at.here at.held_here seats;
      parts = record {
        names_next = names;
        tables_wanted = tt;
        tables_next = tables-shut b port place here next.tables.items k
            (subst (λ (n : List ℕ). is_switch_port_name n ≡ true → IsForgottenOn (switch_of n) port b.tables.items next.tables.items) same switch)
            (subst (λ (n : List ℕ). is_switch_port_name n ≡ false → next.tables.items ≡ b.tables.items) same other);
        watches_next = watches;
        tally_next = tally;
        free_next = pool;
      };
      region = region;
      buffers = buffers;
      free_are = rw pool k.free_are;
      lines_are = rw (state at.state at.state_here)
          (each-set (HasBuffersOf b.region.region) b.ports.items place (record at.state { shutting = true }) k.lines_are (each-at (HasBuffersOf b.region.region) b.ports.items place at.state k.lines_are at.state_here));
    }
