-- Laws of histories, as statements: what holds after every history, or after every legal one.
use Rattle.vale_entry.specs.declared.entry.Entry.{Entry}
use Rattle.vale_entry.specs.Legal.{Standing, Outcome, step, reply_to, kept_ask, is_enabled, world_of, standing_of, recorded_step, IsLegal, Follows}
use Rattle.nm_types.specs.declared.id.PortId.{PortId}
use Rattle.nm_types.specs.declared.id.Chain.{Chain}
use Rattle.vale_entry.specs.Closing.{leases_out, shutting_port}
use Rattle.vale_entry.specs.Room.{promised_of, room_used}
use Rattle.vale_entry.specs.declared.entry.Reply.TheVariants.{LeasesOut}
use Rattle.vale_entry.specs.declared.entry.Ask.{Ask}
use Rattle.vale_entry.specs.declared.entry.Ask.TheVariants.{Grant, Finish, Put, PutKept}
use Rattle.vale_entry.specs.declared.entry.Item.{Item}
use Rattle.vale_entry.specs.Transcript.{IsPrintable}
use Rattle.vale_entry.specs.Fits.{FitsEntry}
use Rattle.vale_entry.specs.declared.entry.Span.{Span}
use Rattle.vale_entry.specs.Spans.{spans_of, spans_in, numbers_in, AreSpansOf}
use Rattle.std.specs.Prelude.{ℕ, true, false, not, ◌&&◌, ◌==◌, ◌≡◌, ◌+◌, ◌-◌, ◌<◌, ◌≤◌, ◌^◌, List, [], ◌∷◌, Some, map, length, flat_map, sum_by, count_by, Bool, All, ◌++◌, take, drop, is_some, slice_get, Option, bytes_eq}
use Rattle.std.specs.List.{list_any, AllByRecursion}
use Rattle.nm_types.specs.Sendable.{AreFrames}
use Rattle.nm_types.specs.Names.{is_monitor_name}
use Rattle.vale_entry.specs.Monitors.{is_watch_at}
use Rattle.vale_entry.specs.Opening.{is_on_switch}
use Rattle.vale_entry.specs.World.{Port, Lot, Pair, Offer, Watch as Watcher, World, PortCounts, is_open_at, size_of_line, buffers_of, due_of, space_of, free_count}
use Rattle.vale_entry.specs.Holdings.{PortBuffers, SessionBuffers, Holdings, IsParted, Agrees, all_with_free}

-- the numbers rise strictly; all are above the first bound, and none is above the second
abbrev pub Rise : ℕ → List ℕ → ℕ → Type 0
Rise low [] high = low ≤ high
Rise low (n ∷ ns) high = (low < n) × Rise n ns high

abbrev pub id_of_port : Port → ℕ
id_of_port port = port.id

abbrev pub id_of_held : PortBuffers → ℕ
id_of_held held = held.port

abbrev pub id_of_session : SessionBuffers → ℕ
id_of_session held = held.session

abbrev pub id_of_counted : PortCounts → ℕ
id_of_counted counted = counted.port

-- there are counters for each port that is there, and for no other
abbrev pub AreCountedAt : World → Type 0
AreCountedAt w = map id_of_counted w.counts ≡ map id_of_port w.ports

abbrev pub IsThere : List ℕ → ℕ → Type 0
IsThere sessions session = list_any (λ s. s == session) sessions ≡ true

-- of a session that is there
abbrev pub IsPortOf : List ℕ → Port → Type 0
IsPortOf sessions port = IsThere sessions port.session

abbrev pub IsOfferOf : List ℕ → Offer → Type 0
IsOfferOf sessions offer = IsThere sessions offer.session

-- made by one of so many entries
abbrev pub IsFrom : ℕ → Offer → Type 0
IsFrom count offer = offer.origin ≤ count

-- to a port that one of them opened
abbrev pub IsTo : ℕ → Offer → Type 0
IsTo count offer = offer.to ≤ count

abbrev pub IsGrantedBy : ℕ → Lot → Type 0
IsGrantedBy count lot = lot.number ≤ count

abbrev pub HasLotsUpTo : ℕ → Port → Type 0
HasLotsUpTo count port = AllByRecursion (IsGrantedBy count) port.line

-- a lease, a lot that is not done, of a session that is there
abbrev pub IsLotOf : List ℕ → Lot → Type 0
IsLotOf sessions lot = lot.is_done ≡ false → IsThere sessions lot.session

abbrev pub HasLeasesOf : List ℕ → Port → Type 0
HasLeasesOf sessions port = AllByRecursion (IsLotOf sessions) port.line

-- sessions, ports, lots and offers bear the numbers of the entries that made them, and each port,
-- each lease and each offer is of a session that is there
pub record AreNumbered (count : ℕ) (sessions : List ℕ) (ports : List Port) (offers : List Offer)
    : Type 0 where
  pub sessions_rise : Rise 0 sessions count
  pub ports_rise : Rise 0 (map id_of_port ports) count
  pub ports_owned : AllByRecursion (IsPortOf sessions) ports
  pub lots_within : AllByRecursion (HasLotsUpTo count) ports
  pub offers_within : AllByRecursion (IsFrom count) offers
  pub offers_to : AllByRecursion (IsTo count) offers
  pub offers_owned : AllByRecursion (IsOfferOf sessions) offers
  pub leases_owned : AllByRecursion (HasLeasesOf sessions) ports

abbrev pub IsNumbered : World → Type 0
IsNumbered w = AreNumbered w.entry_count w.sessions w.ports w.offers

abbrev pub IsFilled : Lot → Type 0
IsFilled lot = 0 < length lot.frames

-- the asks that bring a lot
abbrev pub is_grant : Ask → Bool
is_grant (Grant origin to) = true
is_grant _ = false

abbrev pub brings_lot : Ask → Bool
brings_lot (Grant origin to) = true
brings_lot (PutKept port offered) = true
brings_lot _ = false

-- a lot bears the number of the entry of its session that brought it: of a Grant or a Put, and of a
-- Grant if the lot is not done
pub record IsOfEntry (history : List Entry) (lot : Lot) : Type 0 where
  pub entry : Entry
  pub counted : 0 < lot.number
  pub here : slice_get history (lot.number - 1) ≡ Some entry
  pub session : entry.session.0 ≡ lot.session
  pub brings : brings_lot entry.ask ≡ true
  pub leased : lot.is_done ≡ false → is_grant entry.ask ≡ true

-- no two lots bear one number
abbrev pub bears_number : ℕ → Lot → Bool
bears_number number lot = lot.number == number

abbrev pub AreSingle : List Port → Type 0
AreSingle ports =
    (number : ℕ) → sum_by (λ (port : Port). count_by (bears_number number) port.line) ports ≤ 1

-- an open port of this id, and one with a monitor's name
abbrev pub is_monitor_open : ℕ → Port → Bool
is_monitor_open id port = is_open_at id port && is_monitor_name port.name

-- an open port of this id, and one with another name
abbrev pub is_target_open : ℕ → Port → Bool
is_target_open id port = is_open_at id port && not (is_monitor_name port.name)

-- both ends of a watch are open; the one that watches is a monitor's port, and the other is not
pub record IsWatch (ports : List Port) (watch : Watcher) : Type 0 where
  pub monitor : list_any (is_monitor_open watch.monitor) ports ≡ true
  pub target : list_any (is_target_open watch.target) ports ≡ true

-- and a port has one monitor at most
pub record AreWatches (ports : List Port) (watches : List Watcher) : Type 0 where
  pub each : AllByRecursion (IsWatch ports) watches
  pub once : (target : ℕ) → count_by (is_watch_at target) watches ≤ 1

-- a port that a pair names is of the pair's switch
abbrev pub IsPortOfPair : Pair → Port → Type 0
IsPortOfPair pair port = port.id ≡ pair.port → is_on_switch pair.switch port ≡ true

-- it was opened by one of so many entries, and while it is there it is of the pair's switch
pub record IsPairOf (count : ℕ) (ports : List Port) (pair : Pair) : Type 0 where
  pub within : pair.port ≤ count
  pub on_switch : AllByRecursion (IsPortOfPair pair) ports

abbrev pub ArePairsOf : World → Type 0
ArePairsOf w = AllByRecursion (IsPairOf w.entry_count w.ports) w.pairs

-- no two ports bear one name
abbrev pub IsNamedApart : Port → Port → Type 0
IsNamedApart port other = bytes_eq port.name other.name ≡ false

abbrev pub AreNamedApart : List Port → Type 0
AreNamedApart [] = Unit {0}
AreNamedApart (port ∷ ports) = AllByRecursion (IsNamedApart port) ports × AreNamedApart ports

-- offers stand in the order of the entries that made them
abbrev pub Climb : ℕ → List Offer → Type 0
Climb low [] = Unit {0}
Climb low (offer ∷ offers) = (low ≤ offer.origin) × Climb offer.origin offers

-- a port that waits is there and shutting, and has leases out, so many as are told
pub record IsWaiting (found : Option Port) (n : ℕ) : Type 0 where
  pub port : Port
  pub found_is : found ≡ Some port
  pub some : 0 < n
  pub counted : n ≡ leases_out port

-- all offers of a session that are not granted are of one entry
abbrev pub OffersAreOfOneEntry : List Offer → Type 0
OffersAreOfOneEntry offers =
    (session : ℕ)
    → (origin : ℕ)
    × AllByRecursion (λ (offer : Offer). offer.session ≡ session → offer.origin ≡ origin) offers

-- an entry takes one of those promised before or wanted by its step, and leaves the others promised
-- but for those that come back
abbrev pub IsPromised : World → World → Outcome → Type 0
IsPromised before left made =
    promised_of left + 1 + made.back ≡ promised_of before + made.want

-- Each port is within its sizes: no lot is empty, one slot beside what is out and queued stays with
-- the kernel side, and its session's dues, its idle buffers and its lots' are all the buffers that
-- it has. All ports together have no more than the pool.
pub record IsWithinSizes (pool : ℕ) (w : World) : Type 0 where
  pub pool_is : w.pool ≡ pool
  pub lots_filled : All (λ (port : Port). All IsFilled port.line) w.ports
  pub room_kept : All (λ (port : Port). port.out + size_of_line port.line + 1 ≤ port.rx) w.ports
  pub parts_are_all :
      All
      (λ (port : Port).
      due_of port + (space_of port + 1) + size_of_line port.line ≡ buffers_of port)
      w.ports
  pub fits_pool : sum_by buffers_of w.ports ≤ pool

-- the free buffers rise, so that the ones taken from the front are the smallest, and they are as
-- many as the world says
pub record AreSmallestFirst (pool : ℕ) (w : World) (x : Holdings) : Type 0 where
  pub rise : Rise 1 x.free (pool + 1)
  pub smallest :
      (n : ℕ)
      → All (λ (taken : ℕ). All (λ (left : ℕ). taken < left) (drop n x.free)) (take n x.free)
  pub count : length x.free ≡ free_count w

-- each entry is printable at its number
abbrev pub ArePrintable : ℕ → List Entry → Type 0
ArePrintable number [] = Unit {0}
ArePrintable number (entry ∷ entries) = IsPrintable number entry × ArePrintable (number + 1) entries

-- The laws.

-- the table of enabled asks says which asks are answered
abbrev pub AsksAreAnswered : Type 0
AsksAreAnswered = (s : Standing) (ask : Ask) → is_enabled s ask ≡ is_some (reply_to s ask)

-- what holds wherever a legal history leads
abbrev pub WhereverLegal : (ℕ → Standing → Type 0) → Type 0
WhereverLegal Holds =
    (pool : ℕ) (history : List Entry) → IsLegal pool history
    → Holds pool (standing_of pool history)

-- what a Put makes is what its entry records
abbrev pub PutsAreKept : Type 0
PutsAreKept =
    (s : Standing) (port : PortId) (offered : List Item) (made : Outcome)
    → step s (Put port offered) ≡ Some made
    → recorded_step s (kept_ask (Put port offered)) made.reply ≡ Some made

abbrev pub NumbersRise : Type 0
NumbersRise =
    (pool : ℕ) (history : List Entry)
    → AreNumbered (length history) (world_of pool history).sessions (world_of pool history).ports
    (world_of pool history).offers

abbrev pub PortsAreWithinSizes : Type 0
PortsAreWithinSizes = WhereverLegal (λ (pool : ℕ) (s : Standing). IsWithinSizes pool s.world)

abbrev pub FreeBuffersRise : Type 0
FreeBuffersRise = WhereverLegal (λ (pool : ℕ) (s : Standing). AreSmallestFirst pool s.world s.holdings)

-- what was taken from the front of the free buffers and is given back leaves them as they were
abbrev pub FreeBuffersReturn : Type 0
FreeBuffersReturn =
    (low high n : ℕ) (free : List ℕ) → Rise low free high
    → all_with_free (take n free) (drop n free) ≡ free

abbrev pub BuffersAreParted : Type 0
BuffersAreParted = WhereverLegal (λ (pool : ℕ) (s : Standing). IsParted pool s.holdings)

abbrev pub HoldingsAgree : Type 0
HoldingsAgree = WhereverLegal (λ (pool : ℕ) (s : Standing). Agrees s.world s.holdings)

abbrev pub SessionsHaveOneUnsettled : Type 0
SessionsHaveOneUnsettled = WhereverLegal (λ (pool : ℕ) (s : Standing). OffersAreOfOneEntry s.world.offers)

abbrev pub FinishWaitsForLeases : Type 0
FinishWaitsForLeases =
    (s : Standing) (port : PortId) (bufs : List ℕ) (chain : Chain) (n : ℕ)
    → reply_to s (Finish port bufs chain) ≡ Some (LeasesOut n)
    → IsWaiting (shutting_port s.world.ports port.0) n

abbrev pub NamesDiffer : Type 0
NamesDiffer = WhereverLegal (λ (pool : ℕ) (s : Standing). AreNamedApart s.world.ports)

abbrev pub OffersClimb : Type 0
OffersClimb = WhereverLegal (λ (pool : ℕ) (s : Standing). Climb 0 s.world.offers)

abbrev pub CountersAreKept : Type 0
CountersAreKept = WhereverLegal (λ (pool : ℕ) (s : Standing). AreCountedAt s.world)

abbrev pub PairsAreOfSwitch : Type 0
PairsAreOfSwitch =
    (pool : ℕ) (history : List Entry) → ArePairsOf (world_of pool history)

abbrev pub WatchesAreOpen : Type 0
WatchesAreOpen = WhereverLegal (λ (pool : ℕ) (s : Standing). AreWatches s.world.ports s.world.watches)

abbrev pub LotsAreOfEntries : Type 0
LotsAreOfEntries =
    (pool : ℕ) (history : List Entry) → IsLegal pool history
    → AllByRecursion (λ (port : Port). AllByRecursion (IsOfEntry history) port.line)
    (world_of pool history).ports

abbrev pub LotHasFrames : Lot → Type 0
LotHasFrames lot = AreFrames lot.frames

abbrev pub OfferHasFrames : Offer → Type 0
OfferHasFrames offer = AreFrames offer.frames

-- all frames that are in lines, and all that are offered
pub record HaveFrames (ports : List Port) (offers : List Offer) : Type 0 where
  pub lines : AllByRecursion (λ (port : Port). AllByRecursion LotHasFrames port.line) ports
  pub offered : AllByRecursion OfferHasFrames offers

abbrev pub LinesHaveFrames : Type 0
LinesHaveFrames = WhereverLegal (λ (pool : ℕ) (s : Standing). HaveFrames s.world.ports s.world.offers)

abbrev pub LotsAreSingle : Type 0
LotsAreSingle = WhereverLegal (λ (pool : ℕ) (s : Standing). AreSingle s.world.ports)

-- an entry's own place and those that it leaves promised are those promised before and those that
-- its step wants
abbrev pub RoomIsPromised : Type 0
RoomIsPromised =
    (pool : ℕ) (history : List Entry) (entry : Entry) (made : Outcome) → IsLegal pool history
    → Follows (standing_of pool history) entry
    → recorded_step (standing_of pool history) entry.ask entry.reply ≡ Some made
    → IsPromised (world_of pool history) (world_of pool (history ++ entry ∷ [])) made

-- so a history uses, entries stored and promised, what its steps have wanted less what came back
abbrev pub RoomIsUsed : Type 0
RoomIsUsed =
    (pool : ℕ) (history : List Entry) (entry : Entry) (made : Outcome) → IsLegal pool history
    → Follows (standing_of pool history) entry
    → recorded_step (standing_of pool history) entry.ask entry.reply ≡ Some made
    → room_used pool (history ++ entry ∷ []) + made.back
    ≡ room_used pool history + made.want

-- each number of a legal history is below 2^64, if the pool has fewer than 2^32 buffers and the
-- history fewer than 2^32 entries
abbrev pub LegalHistoriesFit : Type 0
LegalHistoriesFit =
    (pool : ℕ) (history : List Entry) → IsLegal pool history → pool < 2 ^ 32
    → length history < 2 ^ 32
    → AllByRecursion FitsEntry history

-- each entry of a legal history is printable at its number
abbrev pub LegalHistoriesArePrintable : Type 0
LegalHistoriesArePrintable =
    (pool : ℕ) (history : List Entry) → IsLegal pool history → ArePrintable 1 history

-- the spans of numbers are the only ones that have these numbers and are as long as they can be
abbrev pub SpansAreOfNumbers : Type 0
SpansAreOfNumbers =
    (numbers : List ℕ) (spans : List Span)
    → (AreSpansOf numbers spans → spans ≡ spans_of numbers)
    × (spans ≡ spans_of numbers → AreSpansOf numbers spans)

-- the spans of either version have these numbers
abbrev pub SpansTellNumbers : Type 0
SpansTellNumbers =
    (version : ℕ) (numbers : List ℕ) → flat_map numbers_in (spans_in version numbers) ≡ numbers
