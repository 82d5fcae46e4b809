-- A book whose parts change as a step says is a book with one entry more.
use Rattle.std.proofs.Common.{ℕ, Bool, true, false, List, [], ◌∷◌, ◌++◌, ◌≡◌, ◌≤◌, ◌<◌, ◌+◌, ◌^◌, length, map, Some, Result, Ok, Err, OnOk, OnErr, refl, sym, ◌∙◌, ap, subst, arith}
use Rattle.std.specs.List.{AllByRecursion as Each}
use Rattle.nm_types.specs.declared.fault.Part.TheVariants.{Entries, Bytes}
use Rattle.nm_types.specs.declared.fault.StepFault.{StepFault}
use Rattle.nm_types.specs.declared.fault.StepFault.TheVariants.{RecordFull, NoMemory}
use Rattle.std.proofs.lemmas.List.{length-map}
use Rattle.nm_types.specs.Buffers.{IsPoolSize}
use Rattle.nm_types.specs.Limits.{most_switches}
use Rattle.nm_types.specs.declared.limits.Limits.{Limits}
use Rattle.nm_pool.specs.Free.{PoolState}
use Rattle.vale_entry.specs.declared.entry.Ask.{Ask}
use Rattle.vale_entry.specs.declared.entry.Ask.TheVariants.{Enter, Open, Send, Grant, Done, Sync, Reset, Shut, Finish, Leave, Put, PutKept, Get, Watch, Stat}
use Rattle.vale_entry.specs.declared.entry.Reply.{Reply}
use Rattle.vale_entry.specs.Stored.{Fits, IsFull}
use Rattle.vale_entry.specs.declared.entry.Entry.{Entry}
use Rattle.vale_entry.specs.Legal.{Standing, Outcome, step, standing_of, standing_after, Follows, kept_ask}
use Rattle.vale_entry.specs.Room.{promised_of, bytes_of}
use Rattle.vale_entry.proofs.HistoryLaws.{room-promised}
use Rattle.vale_entry.proofs.Wants.{is_owed}
use Rattle.vale_entry.proofs.Worlds.{standing-push, legal-push}
use Rattle.vale_port.specs.Lists.{ArePortsOf}
use Rattle.vale_parts.specs.Parts.{Parts, ArePartsAfter}
use Rattle.vale_parts.specs.SwitchTables.{SwitchTable, table_with}
use Rattle.vale_parts.proofs.AllParts.{parts_follow, tables_stay}
use Rattle.vale_parts.proofs.FreeKept.{size_kept}
use Rattle.vale_book.specs.declared.book.Book.TheInside.{Inside}
use Rattle.vale_steps.specs.declared.tables.NamedTable.{NamedTable}
use Rattle.vale_steps.specs.NamedTables.{table_seen}
use Rattle.nm_region.specs.Regions.{AreOf}
use Rattle.vale_book.specs.BookView.{recorded, parts_in, number_of_session, HasBuffersOf, StandsFor, IsBook}
use Rattle.vale_own.specs.Recorded.{entry_of, after_ask, IsFullFor, refused_by, IsRefusal, HasRoomFor, HasRoom, room_by}
use Rattle.vale_own.proofs.Rooms.{step-recorded, had-after, room-owed, within-had}

abbrev pub before : Inside → Standing
before b = standing_of b.pool.buffers b.history.entries

-- what a step makes of a book
pub record Moves (b next : Inside) (ask : Ask) (made : Outcome) : Type 0 where
  pub step_is : step (before b) ask ≡ Some made
  pub entries : next.history.entries ≡ b.history.entries ++ entry_of ask made ∷ []
  pub limits : next.history.limits ≡ b.history.limits
  pub promised : next.history.promised + 1 + made.back ≡ b.history.promised + made.want
  pub room : HasRoomFor (recorded b) ask made
  pub sessions : map number_of_session next.sessions.items ≡ made.next.world.sessions
  pub ports : ArePortsOf made.next.world.ports made.next.holdings.ports next.ports.items
  pub parts : ArePartsAfter (before b).world (before b).holdings (kept_ask ask) made.reply (parts_in b) (parts_in next)
  pub region : next.region ≡ b.region
  pub buffers : next.buffers ≡ b.buffers
  pub free_are : AreOf b.region.region next.pool.free
  pub lines_are : Each (HasBuffersOf b.region.region) next.ports.items

follows-of : (pool : ℕ) (h : List Entry) (ask : Ask) (made : Outcome) → step (standing_of pool h) ask ≡ Some made → Follows (standing_of pool h) (entry_of ask made)
follows-of pool h ask made is = rw (step-recorded (standing_of pool h) ask made is) refl

-- so many buffers as before
pub size-moved : (b next : Inside) (ask : Ask) (made : Outcome) → Moves b next ask made → next.pool.buffers ≡ b.pool.buffers
size-moved b next ask made m =
    size_kept b.pool.buffers b.history.entries (entry_of ask made) b.pool next.pool (follows-of b.pool.buffers b.history.entries ask made m.step_is) m.parts.free_next

-- and as many tables
as-many : (tables new : List NamedTable) → map table_seen new ≡ map table_seen tables → length new ≡ length tables
as-many tables new same = sym (length-map new table_seen) ∙ (ap (λ (ts : List SwitchTable). length ts) same ∙ length-map tables table_seen)

tables-moved : (b next : Inside) (ask : Ask) (made : Outcome) → Moves b next ask made → length next.tables.items ≡ length b.tables.items
tables-moved b next ask made m =
    let seen = map table_seen b.tables.items in
    sym (length-map next.tables.items table_seen)
    ∙ (ap (λ (ts : List SwitchTable). length ts) m.parts.tables_next ∙ (length-map seen (table_with (before b).world (kept_ask ask)) ∙ length-map b.tables.items table_seen))

stands-moved : (b next : Inside) (ask : Ask) (made : Outcome) → StandsFor b.pool.buffers b.history.entries b → Moves b next ask made
    → StandsFor b.pool.buffers (b.history.entries ++ entry_of ask made ∷ []) next
stands-moved b next ask made k m =
    let pool = b.pool.buffers in
    let h = b.history.entries in
    let entry = entry_of ask made in
    let follows = follows-of pool h ask made m.step_is in
    let is = step-recorded (standing_of pool h) ask made m.step_is in
    let law = room-promised pool h entry made k.legal follows is in
    let after : standing_of pool (h ++ entry ∷ []) ≡ standing_after (standing_of pool h) entry (Some made) =
    standing-push pool h entry ∙ ap (standing_after (standing_of pool h) entry) is in
    let room = m.promised in
    let owed = k.promised_is in
    record {
      legal = legal-push pool h entry k.legal follows;
      promised_is = omega (arith, law, room, owed);
      sessions_are = m.sessions ∙ ap (λ (s : Standing). s.world.sessions) (sym after);
      ports_are = subst (λ (s : Standing). ArePortsOf s.world.ports s.holdings.ports next.ports.items) (sym after) m.ports;
      parts_are = parts_follow pool h entry (parts_in b) (parts_in next) k.legal follows k.parts_are m.parts;
    }

pub record-moved : (b next : Inside) (ask : Ask) (made : Outcome) → Moves b next ask made → recorded next ≡ after_ask (recorded b) ask
record-moved b next ask made m =
    let size = size-moved b next ask made m in
    rw (m.step_is, size, m.region, m.limits, m.entries) refl

pub had-room : (b next : Inside) (ask : Ask) (made : Outcome) → Moves b next ask made → HasRoom (recorded b) ask
had-room b next ask made m = subst (room_by (recorded b) ask) (sym m.step_is) m.room

pub moved : (b next : Inside) (ask : Ask) (made : Outcome) → IsBook b → Moves b next ask made → IsBook next
moved b next ask made k m =
    let size = size-moved b next ask made m in
    record {
      stands = subst (λ (h : List Entry). StandsFor next.pool.buffers h next) (sym m.entries)
          (subst (λ (pool : ℕ). StandsFor pool (b.history.entries ++ entry_of ask made ∷ []) next) (sym size) (stands-moved b next ask made k.stands m));
      rooms = had-after (recorded b) (recorded next) ask k.rooms (record-moved b next ask made m) (had-room b next ask made m);
      tables_few = subst (λ (n : ℕ). n ≤ most_switches) (sym (tables-moved b next ask made m)) k.tables_few;
      few = subst (λ (limits : Limits). limits.entries < 2 ^ 32) (sym m.limits) k.few;
      pool_fits = subst IsPoolSize (sym size) k.pool_fits;
      size = m.buffers ∙ (k.size ∙ sym size);
      region_size = rw (m.region, size) k.region_size;
      free_are = rw m.region m.free_are;
      lines_are = rw m.region m.lines_are;
    }

-- A book that is refused keeps all but memory.
pub record Stays (b next : Inside) : Type 0 where
  pub entries : next.history.entries ≡ b.history.entries
  pub limits : next.history.limits ≡ b.history.limits
  pub promised : next.history.promised ≡ b.history.promised
  pub sessions : next.sessions.items ≡ b.sessions.items
  pub ports : next.ports.items ≡ b.ports.items
  pub parts : parts_in next ≡ parts_in b
  pub region : next.region ≡ b.region
  pub buffers : next.buffers ≡ b.buffers

pub pool-same : (b next : Inside) → parts_in next ≡ parts_in b → next.pool ≡ b.pool
pool-same b next same = ap (λ (parts : Parts). parts.free) same

pub free-same : (b next : Inside) → parts_in next ≡ parts_in b → AreOf b.region.region b.pool.free → AreOf b.region.region next.pool.free
free-same b next same are = subst (λ (p : PoolState). AreOf b.region.region p.free) (sym (pool-same b next same)) are

pub stayed : (b next : Inside) → IsBook b → Stays b next → IsBook next
stayed b next k s =
    let pool : next.pool ≡ b.pool = ap (λ (parts : Parts). parts.free) s.parts in
    let stands : StandsFor b.pool.buffers b.history.entries next = record {
      legal = k.stands.legal;
      promised_is = s.promised ∙ k.stands.promised_is;
      sessions_are = rw s.sessions k.stands.sessions_are;
      ports_are = rw s.ports k.stands.ports_are;
      parts_are = rw s.parts k.stands.parts_are;
    } in
    record {
      stands = subst (λ (h : List Entry). StandsFor next.pool.buffers h next) (sym s.entries)
          (subst (λ (p : PoolState). StandsFor p.buffers b.history.entries next) (sym pool) stands);
      rooms = rw (pool, s.region, s.limits, s.entries) k.rooms;
      tables_few = subst (λ (n : ℕ). n ≤ most_switches) (sym (as-many b.tables.items next.tables.items (ap (λ (parts : Parts). parts.tables) s.parts))) k.tables_few;
      few = subst (λ (limits : Limits). limits.entries < 2 ^ 32) (sym s.limits) k.few;
      pool_fits = subst (λ (p : PoolState). IsPoolSize p.buffers) (sym pool) k.pool_fits;
      size = s.buffers ∙ (k.size ∙ sym (ap (λ (p : PoolState). p.buffers) pool));
      region_size = rw (s.region, pool) k.region_size;
      free_are = rw (s.region, pool) k.free_are;
      lines_are = rw (s.region, s.ports) k.lines_are;
    }

pub record-stayed : (b next : Inside) → Stays b next → recorded next ≡ recorded b
record-stayed b next s =
    let pool : next.pool ≡ b.pool = ap (λ (parts : Parts). parts.free) s.parts in
    rw (pool, s.region, s.limits, s.entries) refl

-- Whether a call makes the step or is refused, its book stands.
pub kept-on : {A E : Type 0} (r : Result A E) (b next : Inside) (ask : Ask) (made : Outcome) → IsBook b → OnOk r (Moves b next ask made) → OnErr r (Stays b next) → IsBook next
kept-on (Ok a) b next ask made k moves stays = moved b next ask made k moves
kept-on (Err e) b next ask made k moves stays = stayed b next k stays

pub after-on : {A E : Type 0} (r : Result A E) (b next : Inside) (ask : Ask) (made : Outcome) → OnOk r (Moves b next ask made) → OnOk r (recorded next ≡ after_ask (recorded b) ask)
after-on (Ok a) b next ask made moves = record-moved b next ask made moves
after-on (Err e) b next ask made moves = tt

pub room-on : {A E : Type 0} (r : Result A E) (b next : Inside) (ask : Ask) (made : Outcome) → OnOk r (Moves b next ask made) → OnOk r (HasRoom (recorded b) ask)
room-on (Ok a) b next ask made moves = had-room b next ask made moves
room-on (Err e) b next ask made moves = tt

pub same-on : {A E : Type 0} (r : Result A E) (b next : Inside) → OnErr r (Stays b next) → OnErr r (recorded next ≡ recorded b)
same-on (Ok a) b next stays = tt
same-on (Err e) b next stays = record-stayed b next stays

-- What of the record is full for a step.
full-for : (b : Inside) (ask : Ask) (made : Outcome) (fault : StepFault) → b.history.promised ≡ promised_of (before b).world
    → IsFull b.history made.want (bytes_of ask made.reply) fault → IsFullFor (recorded b) ask made fault
full-for b ask made (RecordFull Entries used want) owed full = (full.0 ∙ ap (λ n. length b.history.entries + n) owed, full.1, full.2)
full-for b ask made (RecordFull Bytes used want) owed full = (rw (← owed) full.0, full.1, full.2, full.3)
full-for b ask made NoMemory owed full = tt

pub full-step : (b : Inside) (ask : Ask) (made : Outcome) (fault : StepFault) → IsBook b → step (before b) ask ≡ Some made
    → IsFull b.history made.want (bytes_of ask made.reply) fault → IsRefusal (recorded b) ask fault
full-step b ask made fault k is full = subst (refused_by (recorded b) ask fault) (sym is) (full-for b ask made fault k.stands.promised_is full)

pub fits-step : (b : Inside) (ask : Ask) (made : Outcome) → IsBook b → Fits b.history made.want (bytes_of ask made.reply) → HasRoomFor (recorded b) ask made
fits-step b ask made k fits = (rw (← k.stands.promised_is) fits.0, fits.1)

-- Asks that leave the parts as they are.
abbrev pub is_quiet : Ask → Bool
is_quiet (Enter user) = true
is_quiet (Done lease) = true
is_quiet (Reset port side fault) = true
is_quiet (Leave session) = true
is_quiet (Stat port) = true
is_quiet _ = false

pub parts-stay : (s : Standing) (ask : Ask) (reply : Reply) (parts : Parts) → is_quiet ask ≡ true → ArePartsAfter s.world s.holdings ask reply parts parts
parts-stay s (Enter user) reply parts quiet = record { names_next = refl; tables_wanted = tt; tables_next = sym (tables_stay s.world (Enter user) parts.tables refl); watches_next = λ port. refl; tally_next = refl; free_next = refl }
parts-stay s (Done lease) reply parts quiet = record { names_next = refl; tables_wanted = tt; tables_next = sym (tables_stay s.world (Done lease) parts.tables refl); watches_next = λ port. refl; tally_next = refl; free_next = refl }
parts-stay s (Reset port side fault) reply parts quiet = record { names_next = refl; tables_wanted = tt; tables_next = sym (tables_stay s.world (Reset port side fault) parts.tables refl); watches_next = λ port. refl; tally_next = refl; free_next = refl }
parts-stay s (Leave session) reply parts quiet = record { names_next = refl; tables_wanted = tt; tables_next = sym (tables_stay s.world (Leave session) parts.tables refl); watches_next = λ port. refl; tally_next = refl; free_next = refl }
parts-stay s (Stat port) reply parts quiet = record { names_next = refl; tables_wanted = tt; tables_next = sym (tables_stay s.world (Stat port) parts.tables refl); watches_next = λ port. refl; tally_next = refl; free_next = refl }
parts-stay s (Open session name tx rx extra) reply parts quiet = absurd cc
parts-stay s (Send port frames) reply parts quiet = absurd cc
parts-stay s (Grant origin to) reply parts quiet = absurd cc
parts-stay s (Sync port back) reply parts quiet = absurd cc
parts-stay s (Shut port) reply parts quiet = absurd cc
parts-stay s (Finish port bufs chain) reply parts quiet = absurd cc
parts-stay s (Put port offered) reply parts quiet = absurd cc
parts-stay s (PutKept port offered) reply parts quiet = absurd cc
parts-stay s (Get port back) reply parts quiet = absurd cc
parts-stay s (Watch monitor target sides) reply parts quiet = absurd cc

-- A step that was promised has room.
pub owed-room : (b : Inside) (ask : Ask) (made : Outcome) → IsBook b → is_owed ask ≡ true → step (before b) ask ≡ Some made → HasRoomFor (recorded b) ask made
owed-room b ask made k owed is = subst (room_by (recorded b) ask) is (room-owed (recorded b) ask k.stands.legal k.rooms owed)

-- A book has fewer than 2^32 entries.
pub entries-few : (b : Inside) → IsBook b → length b.history.entries < 2 ^ 32
entries-few b k =
    let within = within-had (recorded b) k.stands.legal k.rooms in
    let room = within.0 in
    let few = k.few in
    omega (arith, room, few)

-- A step that wants no room was promised it.
pub owed-promised : (b : Inside) (ask : Ask) (made : Outcome) → IsBook b → step (before b) ask ≡ Some made → made.want ≡ 0 → 1 + made.back ≤ b.history.promised
owed-promised b ask made k is none =
    let pool = b.pool.buffers in
    let h = b.history.entries in
    let law = room-promised pool h (entry_of ask made) made k.stands.legal (follows-of pool h ask made is) (step-recorded (standing_of pool h) ask made is) in
    let owed = k.stands.promised_is in
    omega (arith, law, owed, none)
