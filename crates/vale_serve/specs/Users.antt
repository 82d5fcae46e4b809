-- What a session has outside the book, and how it is what is the session's own in what stands.
use Rattle.std.specs.Prelude.{ℕ, Bool, false, slice_get, not, is_some, ◌&&◌, ◌≡◌, ◌==◌, ◌≤◌, ◌+◌, List, [], ◌∷◌, length, map, count_by, vec_capacity, Vec, Option, Some, None, option_map}
use Rattle.std.specs.List.{AllByRecursion, list_any}
use Rattle.std.specs.declared.alloc.Global.{Global}
use Rattle.nm_types.specs.Frames.{Frame}
use Rattle.nm_types.specs.Limits.{most_ring, most_extra}
use Rattle.nm_types.specs.declared.id.PortId.{PortId}
use Rattle.nm_region.specs.Buffers.{Buffer, indices_of}
use Rattle.vale_line.specs.Gots.{buffers_of}
use Rattle.vale_line.specs.Leased.{Leased}
use Rattle.vale_entry.specs.World.{Offer, Port}
use Rattle.vale_entry.specs.Laws.{Rise, id_of_port}
use Rattle.vale_entry.specs.Legal.{is_met}
use Rattle.vale_own.specs.Own.{Own, HeldLot, own_of}
use Rattle.vale_parts.specs.Batches.{AreOffersOf}
use Rattle.vale_port.specs.Kept.{kept_gots, world_frames, bytes_of}
use Rattle.vale_book.specs.Asking.{IsSeen}
use Rattle.vale_book.specs.Offering.{OffersState, IsOfferBy}
use Rattle.vale_book.specs.declared.asking.PortSeen.{PortSeen}
use Rattle.vale_batch.specs.Wants.{Wanted}
use Rattle.vale_book.specs.BookView.{AreOf}
use Rattle.vale_book.specs.Recorded.{Recorded, standing}
use Rattle.vale_book.specs.Leases.{WasGranted}
use Rattle.vale_serve.specs.declared.users.User.{User}
use Rattle.vale_serve.specs.declared.users.Sent.{Sent}
use Rattle.vale_serve.specs.declared.users.Room.{Room}

abbrev pub id_of_user : User → ℕ
id_of_user user = user.id.0

abbrev pub is_user : ℕ → User → Bool
is_user id user = user.id.0 == id

-- Offers.

abbrev pub contents : List (Vec ℕ Global) → List (List ℕ)
contents frames = map (λ (frame : Vec ℕ Global). frame.items) frames

-- these are not granted of the frames of an entry
pub record AreOffered (offers : List Offer) (sent : Sent) : Type 0 where
  pub some : 1 ≤ length sent.offers.wants
  pub frames : List Frame
  pub bytes : contents sent.frames.items ≡ bytes_of frames
  pub are : AreOffersOf frames sent.offers.wants offers
  pub of : AllByRecursion (λ (offer : Offer). offer.origin ≡ sent.offers.entry) offers
  pub by : AllByRecursion (IsOfferBy sent.offers.session) offers

abbrev pub HasOffers : List Offer → Option Sent → Type 0
HasOffers offers None = offers ≡ []
HasOffers offers (Some sent) = AreOffered offers sent

abbrev pub wants_left : Option Sent → ℕ
wants_left None = 0
wants_left (Some sent) = length sent.offers.wants

-- Leases.

-- the lease is filled with the frames of its lot, in the lot's buffers, as its grant gave it
pub record IsHeldAs (b : Recorded) (held : HeldLot) (lease : Leased) : Type 0 where
  pub number : held.0.number ≡ lease.id
  pub frames : world_frames held.0 held.1 ≡ kept_gots lease.filled
  pub granted : WasGranted b.entries lease.id lease.to
  pub full : lease.sizes ≡ []
  pub empty : lease.empty ≡ []
  pub region_is : AreOf b.region (buffers_of lease.filled)

abbrev pub AreHeldAs : Recorded → List HeldLot → List Leased → Type 0
AreHeldAs b [] [] = Unit {0}
AreHeldAs b [] (lease ∷ leases) = ⊥
AreHeldAs b (held ∷ helds) [] = ⊥
AreHeldAs b (held ∷ helds) (lease ∷ leases) = IsHeldAs b held lease × AreHeldAs b helds leases

abbrev pub number_of : HeldLot → ℕ
number_of held = held.0.number

-- Buffers.

-- the same numbers, each as often
abbrev pub AreSame : List ℕ → List ℕ → Type 0
AreSame ms ns = (n : ℕ) → count_by (λ m. m == n) ms ≡ count_by (λ m. m == n) ns

-- the most buffers that a session holds for one port: a transmit ring's, extra ones and a receive
-- ring's
abbrev pub most_due : ℕ
most_due = most_ring + most_extra + most_ring

-- memory for the buffers that go with a port
abbrev pub IsMemory : Vec Buffer Global → Type 0
IsMemory bufs = (bufs.items ≡ []) × (most_due ≤ vec_capacity bufs)

abbrev pub IsRoom : Room → Type 0
IsRoom room = IsMemory room.bufs

abbrev pub port_in_room : Room → PortId
port_in_room room = room.port

abbrev pub port_of_room : Room → ℕ
port_of_room room = room.port.0

abbrev pub is_room_of : ℕ → Room → Bool
is_room_of id room = room.port.0 == id

-- The session has these offers, leases and buffers of its own, with memory for a lease of each offer
-- and for the end of each port.
pub record HasOwn (b : Recorded) (own : Own) (user : User) : Type 0 where
  pub offers : HasOffers own.offers user.sent
  pub leases : AreHeldAs b own.leases user.leases.items
  pub rise : Rise 0 (map number_of own.leases) (length b.entries)
  pub buffers : AreSame (indices_of user.bufs.items) own.buffers
  pub region_is : AreOf b.region user.bufs.items
  pub lease_room : length user.leases.items + wants_left user.sent ≤ vec_capacity user.leases
  pub rooms : AllByRecursion IsRoom user.rooms.items
  pub room_each : map port_of_room user.rooms.items ≡ map id_of_port own.ports

abbrev pub IsUser : Recorded → User → Type 0
IsUser b user = HasOwn b (own_of user.id.0 (standing b)) user

-- the session with the same in hand; only its memory may differ
pub record SameUser (old new : User) : Type 0 where
  pub id : new.id ≡ old.id
  pub bufs : new.bufs.items ≡ old.bufs.items
  pub leases : new.leases.items ≡ old.leases.items
  pub sent : new.sent ≡ old.sent
  pub rooms : new.rooms.items ≡ old.rooms.items
  pub lease_room : vec_capacity old.leases ≤ vec_capacity new.leases

-- it has nothing
pub record HasNothing (user : User) : Type 0 where
  pub bufs : user.bufs.items ≡ []
  pub leases : user.leases.items ≡ []
  pub sent : user.sent ≡ None
  pub rooms : user.rooms.items ≡ []

-- it has neither an offer nor a lease
abbrev pub is_settled_user : User → Bool
is_settled_user user = not (is_some user.sent) && (length user.leases.items == 0)

-- the port that is looked for is there, seen so, and the session's
pub record IsAsker (user : User) (found : Option Port) (seen : PortSeen) : Type 0 where
  pub port : Port
  pub found_is : found ≡ Some port
  pub is_seen : IsSeen port seen
  pub mine : port.session ≡ user.id.0

-- it is there, and the session's
pub record IsMine (user : User) (found : Option Port) : Type 0 where
  pub port : Port
  pub found_is : found ≡ Some port
  pub mine : port.session ≡ user.id.0

-- offers with their frames, if some are left
abbrev pub sent_of : List Wanted → OffersState → Vec (Vec ℕ Global) Global → Option Sent
sent_of [] offers frames = None
sent_of (want ∷ wants) offers frames = Some (record { offers = offers; frames = frames })

-- the session has these, and else what it had
pub record HasSent (old : User) (offers : OffersState) (frames : Vec (Vec ℕ Global) Global) (new : User) : Type 0 where
  pub id : new.id ≡ old.id
  pub bufs : new.bufs ≡ old.bufs
  pub leases : new.leases ≡ old.leases
  pub rooms : new.rooms ≡ old.rooms
  pub sent : new.sent ≡ sent_of offers.wants offers frames

-- What is looked for among the sessions.

abbrev pub is_sent_of : ℕ → Option Sent → Bool
is_sent_of origin None = false
is_sent_of origin (Some sent) = sent.offers.entry == origin

-- its offers are those of this entry
abbrev pub is_offered : ℕ → User → Bool
is_offered origin user = is_sent_of origin user.sent

abbrev pub is_want_of : ℕ → Wanted → Bool
is_want_of to want = want.to.0 == to

-- the next offer is to this port
abbrev pub next_is : ℕ → List Wanted → Bool
next_is to wants = is_met (is_want_of to) (slice_get wants 0)

abbrev pub is_sent_next : ℕ → Option Sent → Bool
is_sent_next to None = false
is_sent_next to (Some sent) = next_is to sent.offers.wants

abbrev pub is_next_to : ℕ → User → Bool
is_next_to to user = is_sent_next to user.sent

abbrev pub is_lease : ℕ → Leased → Bool
is_lease id lease = lease.id == id

-- it has this lease
abbrev pub has_lease : ℕ → User → Bool
has_lease id user = list_any (is_lease id) user.leases.items

-- it has offers, and one of them is next
abbrev pub is_sent_some : Option Sent → Bool
is_sent_some None = false
is_sent_some (Some sent) = not (length sent.offers.wants == 0)

abbrev pub has_next : User → Bool
has_next user = is_sent_some user.sent

-- the entry that its offers are of
abbrev pub origin_of_sent : Sent → ℕ
origin_of_sent sent = sent.offers.entry

abbrev pub offered_by : User → Option ℕ
offered_by user = option_map origin_of_sent user.sent

-- the first of its leases
abbrev pub id_of_lease : Leased → ℕ
id_of_lease lease = lease.id

abbrev pub leased_by : User → Option ℕ
leased_by user = option_map id_of_lease (slice_get user.leases.items 0)
