-- A change of the port at one place, with the seat that it stands for.
use Rattle.std.proofs.Common.{ℕ, zero, suc, ◌≡◌, List, [], ◌∷◌, slice_get, slice_set, get_or, Option, Some, None, refl, sym, ◌∙◌, ap, subst}
use Rattle.std.specs.Prelude.{IfSome, IfNone}
use Rattle.std.proofs.lemmas.Option.{get_or_from_slice_get}
use Rattle.vale_line.specs.Leased.{Leased}
use Rattle.vale_entry.specs.World.{Offer}
use Rattle.vale_entry.proofs.InStep.{zip-set}
use Rattle.vale_port.specs.Lists.{ChangesSeat, ChangesSeatIf, OfSeat, OfState, SeatChangeIsChange}
use Rattle.vale_port.specs.Ports.{PortState, IsSeatOf, AreSeatsOf, IsLeaseFor, sizes_of}
use Rattle.vale_port.specs.Seat.{Seat, seats_of, given_frames}
use Rattle.vale_port.proofs.Lists.{seats-at, change-set}

-- the seat at a place is that of the port there
pub seat-there : (seats : List Seat) (ps : List PortState) (place : ℕ) (seat : Seat) (d : PortState) → AreSeatsOf seats ps → slice_get seats place ≡ Some seat
    → IsSeatOf seat (get_or ps place d)
seat-there [] ps place seat d are e = absurd cc
seat-there (s ∷ ss) [] place seat d are e = absurd are
seat-there (s ∷ ss) (p ∷ ps) zero seat d are e = let same : s ≡ seat = cc in subst (λ (t : Seat). IsSeatOf t p) same are.0
seat-there (s ∷ ss) (p ∷ ps) (suc place) seat d are e = seat-there ss ps place seat d are.1 e

pub changes-at : (change : Seat → Seat) (old : List PortState) (place : ℕ) (was now : PortState) → was ≡ get_or old place was
    → ((seat : Seat) → IsSeatOf seat was → IsSeatOf (change seat) now) → ChangesSeat change old place (slice_set old place now)
changes-at change old place was now here keeps = λ seats seat are e.
    zip-set IsSeatOf seats old place (change seat) now are (keeps seat (subst (IsSeatOf seat) (sym here) (seat-there seats old place seat was are e)))

pub of-seat : (P : Seat → Type 0) (ps : List PortState) (place : ℕ) (was : PortState) → was ≡ get_or ps place was → ((seat : Seat) → IsSeatOf seat was → P seat)
    → OfSeat P ps place
of-seat P ps place was here holds = λ seats seat are e. holds seat (subst (IsSeatOf seat) (sym here) (seat-there seats ps place seat was are e))

pub state-of : (P : PortState → Type 0) (ps : List PortState) (place : ℕ) (was : PortState) → was ≡ get_or ps place was → P was → OfState P ps place
state-of P ps place was here holds = λ p e. subst P (here ∙ get_or_from_slice_get ps place p was e) holds

pub seat_change_is_change : SeatChangeIsChange
seat_change_is_change ports helds old new place port held step change changed are e f changes same =
    let made = changes (seats_of ports helds) (record { port = port; held = held }) are.stand (seats-at ports helds place port held e f) in
    let next = subst (λ (s : Seat). AreSeatsOf (slice_set (seats_of ports helds) place s) new) same made in
    subst (λ (ss : List Seat). AreSeatsOf ss new) (sym (change-set ports helds place port held change changed are e f)) next

-- A change that wants something of the seat.
pub changes-if : (P : Seat → Type 0) (change : Seat → Seat) (old : List PortState) (place : ℕ) (was now : PortState) → was ≡ get_or old place was
    → ((seat : Seat) → IsSeatOf seat was → P seat → IsSeatOf (change seat) now) → ChangesSeatIf P change old place (slice_set old place now)
changes-if P change old place was now here keeps = λ seats seat are e holds.
    zip-set IsSeatOf seats old place (change seat) now are (keeps seat (subst (IsSeatOf seat) (sym here) (seat-there seats old place seat was are e)) holds)

-- What a grant gives to the seat at a place.

pub lease-of_seat : (number : ℕ) (want : List ℕ) (ps : List PortState) (place : ℕ) (was : PortState) (r : Option Leased) → was ≡ get_or ps place was
    → IfSome r (λ (lease : Leased). (seat : Seat) (offer : Offer) → IsSeatOf seat was → want ≡ sizes_of offer.frames → IsLeaseFor number offer seat lease)
    → IfSome r (λ (lease : Leased). (offer : Offer) → want ≡ sizes_of offer.frames → OfSeat (λ (seat : Seat). IsLeaseFor number offer seat lease) ps place)
lease-of_seat number want ps place was None here gives = tt
lease-of_seat number want ps place was (Some lease) here gives = λ offer same.
    of-seat (λ (seat : Seat). IsLeaseFor number offer seat lease) ps place was here (λ seat is. gives seat offer is same)

pub none-of_seat : (want : List ℕ) (ps : List PortState) (place : ℕ) (was : PortState) (r : Option Leased) → was ≡ get_or ps place was
    → IfNone r ((seat : Seat) (offer : Offer) → IsSeatOf seat was → want ≡ sizes_of offer.frames → given_frames offer seat ≡ [])
    → IfNone r ((offer : Offer) → want ≡ sizes_of offer.frames → OfSeat (λ (seat : Seat). given_frames offer seat ≡ []) ps place)
none-of_seat want ps place was (Some lease) here gives = tt
none-of_seat want ps place was None here gives = λ offer same.
    of-seat (λ (seat : Seat). given_frames offer seat ≡ []) ps place was here (λ seat is. gives seat offer is same)

-- that a grant gives nothing says something of the port at the place
pub none-of_state : (P : PortState → Type 0) (ps : List PortState) (place : ℕ) (was : PortState) (r : Option Leased) → was ≡ get_or ps place was → IfNone r (P was)
    → IfNone r (OfState P ps place)
none-of_state P ps place was (Some lease) here holds = tt
none-of_state P ps place was None here holds = state-of P ps place was here holds

pub some-of_state : (P : PortState → Leased → Type 0) (ps : List PortState) (place : ℕ) (was : PortState) (r : Option Leased) → was ≡ get_or ps place was
    → IfSome r (P was) → IfSome r (λ (lease : Leased). OfState (λ (p : PortState). P p lease) ps place)
some-of_state P ps place was None here holds = tt
some-of_state P ps place was (Some lease) here holds = state-of (λ (p : PortState). P p lease) ps place was here holds

-- a list in which the port at a place is another one
pub set-of_state : (change : PortState → PortState) (ps : List PortState) (place : ℕ) (was now : PortState) → was ≡ get_or ps place was → now ≡ change was
    → OfState (λ (p : PortState). slice_set ps place now ≡ slice_set ps place (change p)) ps place
set-of_state change ps place was now here made =
    state-of (λ (p : PortState). slice_set ps place now ≡ slice_set ps place (change p)) ps place was here (ap (λ (p : PortState). slice_set ps place p) made)

pub some-set : (change : Leased → PortState → PortState) (ps : List PortState) (place : ℕ) (was now : PortState) (r : Option Leased) → was ≡ get_or ps place was
    → IfSome r (λ (lease : Leased). now ≡ change lease was)
    → IfSome r (λ (lease : Leased). OfState (λ (p : PortState). slice_set ps place now ≡ slice_set ps place (change lease p)) ps place)
some-set change ps place was now None here made = tt
some-set change ps place was now (Some lease) here made = set-of_state (change lease) ps place was now here made

set-same : (ps : List PortState) (place : ℕ) (d : PortState) → slice_set ps place (get_or ps place d) ≡ ps
set-same [] place d = refl
set-same (p ∷ ps) zero d = refl
set-same (p ∷ ps) (suc place) d = ap (λ (qs : List PortState). p ∷ qs) (set-same ps place d)

pub none-set : (ps : List PortState) (place : ℕ) (was now : PortState) (r : Option Leased) → was ≡ get_or ps place was → IfNone r (now ≡ was)
    → IfNone r (slice_set ps place now ≡ ps)
none-set ps place was now (Some lease) here kept = tt
none-set ps place was now None here kept = ap (λ (p : PortState). slice_set ps place p) (kept ∙ here) ∙ set-same ps place was
