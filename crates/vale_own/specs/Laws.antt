-- Laws of what is a session's own, as statements.
use Rattle.std.specs.Prelude.{ℕ, true, false, not, ◌&&◌, ◌≡◌, ◌≢◌, ◌<◌, List, [], ◌∷◌, ◌++◌, length, find, filter, map, flat_map, sum_by, slice_get, Some, option_map, All, count_by, ◌==◌, ◌+◌, ◌≤◌, if◌then◌else◌}
use Rattle.std.specs.List.{AllByRecursion}
use Rattle.vale_entry.specs.declared.entry.Ask.{Ask}
use Rattle.vale_entry.specs.declared.entry.Entry.{Entry}
use Rattle.vale_entry.specs.World.{Port, Lot, Offer, is_owed_by, is_settled, due_of}
use Rattle.vale_entry.specs.Offers.{is_offer_of}
use Rattle.vale_entry.specs.Grant.{first_offer}
use Rattle.vale_entry.specs.Delivery.{line_of}
use Rattle.vale_entry.specs.Legal.{Standing, Outcome, standing_of, world_of, step, IsLegal, Follows}
use Rattle.nm_types.specs.Frames.{size_of_frames}
use Rattle.nm_types.specs.OwnSyncs.{buffers_of_arrivals}
use Rattle.vale_entry.specs.Arrivals.{arrivals_of}
use Rattle.vale_entry.specs.Holdings.{buffers_without, is_buffer_index}
use Rattle.vale_entry.specs.Laws.{Rise}
use Rattle.vale_own.specs.Own.{HeldLot, own_of, is_offer_by, lot_of_lease, is_settled_own, all_buffers_of}
use Rattle.vale_own.specs.There.{has_come, has_left}
use Rattle.vale_own.specs.Asker.{asker_of, asks, is_enter}
use Rattle.vale_own.specs.OwnAsks.{may_ask}
use Rattle.vale_own.specs.OwnEntries.{own_after_entry, given_up}

abbrev pub IsOfOther : ℕ → Entry → Type 0
IsOfOther session entry = entry.session.0 ≢ session

-- entries of others leave what is a session's own as it was
abbrev pub OwnIsKept : Type 0
OwnIsKept = (pool : ℕ) (past more : List Entry) (session : ℕ) → IsLegal pool (past ++ more) → All (IsOfOther session) more
    → own_of session (standing_of pool (past ++ more)) ≡ own_of session (standing_of pool past)

-- an entry of a session makes of what is its own what is defined
abbrev pub OwnEntriesChangeOwn : Type 0
OwnEntriesChangeOwn = (pool : ℕ) (past : List Entry) (entry : Entry) → IsLegal pool past → Follows (standing_of pool past) entry
    → own_of entry.session.0 (standing_of pool (past ++ entry ∷ []))
    ≡ own_after_entry (standing_of pool past) entry.ask entry.reply (own_of entry.session.0 (standing_of pool past))

-- all offers of one entry are of one session
abbrev pub OffersAreOfOneSession : List Offer → Type 0
OffersAreOfOneSession offers = (origin : ℕ) → (session : ℕ) × AllByRecursion (λ (offer : Offer). offer.origin ≡ origin → offer.session ≡ session) offers

abbrev pub EntriesHaveOneAsker : Type 0
EntriesHaveOneAsker = (pool : ℕ) (history : List Entry) → OffersAreOfOneSession (world_of pool history).offers

-- what is a session's own tells what it asks
abbrev pub OwnTellsAsks : Type 0
OwnTellsAsks = (pool : ℕ) (history : List Entry) (session : ℕ) (ask : Ask) → IsLegal pool history
    → asks (standing_of pool history) session ask ≡ may_ask session (own_of session (standing_of pool history)) ask

-- so entries of others enable and disable no ask of a session
abbrev pub AsksStay : Type 0
AsksStay = (pool : ℕ) (past more : List Entry) (session : ℕ) (ask : Ask) → IsLegal pool (past ++ more) → All (IsOfOther session) more
    → asks (standing_of pool (past ++ more)) session ask ≡ asks (standing_of pool past) session ask

-- what an ask makes is of its asker
abbrev pub AskersMakeSteps : Type 0
AskersMakeSteps = (s : Standing) (ask : Ask) (made : Outcome) → is_enter ask ≡ false → step s ask ≡ Some made → asker_of s ask ≡ Some made.session

-- and so is an entry
abbrev pub EntriesAreOfAskers : Type 0
EntriesAreOfAskers = (s : Standing) (entry : Entry) → is_enter entry.ask ≡ false → Follows s entry → asker_of s entry.ask ≡ Some entry.session.0

-- a session is there that has come and has not left
abbrev pub ThereIsCome : Type 0
ThereIsCome = (pool : ℕ) (history : List Entry) (session : ℕ) → IsLegal pool history
    → (own_of session (standing_of pool history)).there ≡ (has_come history session && not (has_left history session))

-- What is read of all that stands for a session is read off what is its own.

-- the session's first offer
abbrev pub FirstOffersAreOwn : Type 0
FirstOffersAreOwn = (s : Standing) (session : ℕ) → find (is_offer_by session) s.world.offers ≡ slice_get (own_of session s).offers 0

-- its first lot that is not done
abbrev pub FirstLeasesAreOwn : Type 0
FirstLeasesAreOwn = (pool : ℕ) (history : List Entry) (session : ℕ) → IsLegal pool history
    → find (is_owed_by session) (flat_map line_of (world_of pool history).ports) ≡ option_map lot_of_lease (slice_get (own_of session (standing_of pool history)).leases 0)

-- the offers left of an entry, if there are any, are its session's, which has no others
abbrev pub OffersLeftAreOwn : Type 0
OffersLeftAreOwn = (pool : ℕ) (history : List Entry) (origin : ℕ) (offer : Offer) → IsLegal pool history → first_offer (world_of pool history) origin ≡ Some offer
    → filter (is_offer_of origin) (world_of pool history).offers ≡ (own_of offer.session (standing_of pool history)).offers

-- a session without offers and leases is settled
abbrev pub SettledIsOwn : Type 0
SettledIsOwn = (pool : ℕ) (history : List Entry) (session : ℕ) → IsLegal pool history
    → is_settled (world_of pool history) session ≡ is_settled_own (own_of session (standing_of pool history))

-- a session that is there has as many buffers as its ports are due
abbrev pub BuffersAreDue : Type 0
BuffersAreDue = (pool : ℕ) (history : List Entry) (session : ℕ) → IsLegal pool history → (own_of session (standing_of pool history)).there ≡ true
    → length (own_of session (standing_of pool history)).buffers ≡ sum_by due_of (own_of session (standing_of pool history)).ports

-- a lease has as many buffers as its frames take
abbrev pub HoldsFrames : HeldLot → Type 0
HoldsFrames lease = length lease.1 ≡ size_of_frames lease.0.frames

abbrev pub LeasesHoldFrames : Type 0
LeasesHoldFrames = (pool : ℕ) (history : List Entry) (session : ℕ) → IsLegal pool history → All HoldsFrames (own_of session (standing_of pool history)).leases

-- all these buffers are of the pool, each once
abbrev pub OwnBuffersAreApart : Type 0
OwnBuffersAreApart = (pool : ℕ) (history : List Entry) (session : ℕ) (b : ℕ) → IsLegal pool history
    → count_by (λ y. y == b) (all_buffers_of (own_of session (standing_of pool history))) ≤ (if is_buffer_index pool b then 1 else 0)

-- What a session's entries bring and take.

-- the buffers that an entry gives up go, and those of its arrivals come
abbrev pub BuffersGoAndCome : Type 0
BuffersGoAndCome = (pool : ℕ) (past : List Entry) (entry : Entry) → IsLegal pool past → Follows (standing_of pool past) entry
    → (own_of entry.session.0 (standing_of pool (past ++ entry ∷ []))).buffers
    ≡ buffers_without (given_up entry.ask entry.reply) (own_of entry.session.0 (standing_of pool past)).buffers ++ buffers_of_arrivals (arrivals_of (standing_of pool past) entry.ask entry.reply)

-- so, by counts, what a session has after an entry and what it gave up is what it had and what came
abbrev pub BuffersAreMoved : Type 0
BuffersAreMoved = (pool : ℕ) (past : List Entry) (entry : Entry) (b : ℕ) → IsLegal pool past → Follows (standing_of pool past) entry
    → count_by (λ y. y == b) (own_of entry.session.0 (standing_of pool (past ++ entry ∷ []))).buffers + count_by (λ y. y == b) (given_up entry.ask entry.reply)
    ≡ count_by (λ y. y == b) (own_of entry.session.0 (standing_of pool past)).buffers + count_by (λ y. y == b) (buffers_of_arrivals (arrivals_of (standing_of pool past) entry.ask entry.reply))

-- the session has no lease at the port
abbrev pub NoneOwed : ℕ → Port → Type 0
NoneOwed session port = AllByRecursion (λ (lot : Lot). is_owed_by session lot ≡ false) port.line

abbrev pub port_of_offer : Offer → ℕ
port_of_offer offer = offer.to

-- a session's leases stand at ports up to one, and its offers are to ports behind that, by rising port
pub record AheadOf (session : ℕ) (ports : List Port) (offers : List Offer) : Type 0 where
  pub low : ℕ
  pub high : ℕ
  pub behind : AllByRecursion (λ (port : Port). low < port.id → NoneOwed session port) ports
  pub rise : Rise low (map port_of_offer (filter (is_offer_by session) offers)) high

-- so grants go by rising port
abbrev pub GrantsGoByPort : Type 0
GrantsGoByPort = (pool : ℕ) (history : List Entry) (session : ℕ) → AheadOf session (world_of pool history).ports (world_of pool history).offers
