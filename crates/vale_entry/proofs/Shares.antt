-- The frames of an entry that are wanted at a port are offered once and shared out once, whatever
-- entry comes.
use Rattle.std.proofs.Common.{ℕ, ◌+◌, ◌-◌, ◌<◌, ◌≤◌, ◌≡◌, ◌⊎◌, min, Bool, true, false, cond, List, [], ◌∷◌, ◌++◌, map, length, take, refl, ◌∙◌, ap, arith, append-nil, length-append}
use Rattle.std.specs.Prelude.{nat_le}
use Rattle.std.specs.List.{AllByRecursion as Each}
use Rattle.std.proofs.lemmas.List.{map-append}
use Rattle.nm_types.specs.Frames.{Frame, slots_of}
use Rattle.vale_entry.specs.World.{Offer}
use Rattle.vale_entry.specs.Grant.{longest_fitting}
use Rattle.vale_entry.specs.Delivered.{Brought, frames_brought}
use Rattle.vale_entry.specs.Fate.{Share}
use Rattle.vale_entry.proofs.Each.{each-append}

-- what is offered, shared out and granted of one entry at one port, after so many entries
pub record Accounted (number count : ℕ) (wanted : List Frame) (offers : List Offer)
    (shares : List Share) (granted : List Brought) : Type 0 where
  pub once : length offers + length shares ≡ min 1 (length wanted)
  pub offered : Each (λ (offer : Offer). offer.frames ≡ wanted) offers
  pub counted :
      Each (λ (share : Share). share.given + share.full + share.gone ≡ length wanted) shares
  pub one_cause : Each (λ (share : Share). (share.full ≡ 0) ⊎ (share.gone ≡ 0)) shares
  pub first_given :
      map frames_brought granted ≡ map (λ (share : Share). take share.given wanted) shares
  pub future : count < number → wanted ≡ []

pub no_items : {X : Type 0} (xs : List X) → length xs ≡ 0 → xs ≡ []
no_items [] e = refl
no_items (x ∷ xs) e = absurd (omega (arith, e))

pub no_image : {X Y : Type 0} (f : X → Y) (xs : List X) → map f xs ≡ [] → xs ≡ []
no_image f [] e = refl
no_image f (x ∷ xs) e = absurd cc

-- an entry that wants nothing here, and grants nothing
pub accounted-still :
    (number count : ℕ) (wanted : List Frame) (offers : List Offer) (shares : List Share)
    (granted : List Brought)
    → Accounted number count wanted offers shares granted
    → Accounted number (count + 1) (wanted ++ []) offers (shares ++ []) (granted ++ [])
accounted-still number count wanted offers shares granted k =
    rw (append-nil wanted, append-nil shares, append-nil granted) (record {
      once = k.once;
      offered = k.offered;
      counted = k.counted;
      one_cause = k.one_cause;
      first_given = k.first_given;
      future = λ above. k.future (omega (arith, above));
    })

-- the entry of this number
pub accounted-wants :
    (number count : ℕ) (wanted : List Frame) (offers : List Offer) (shares : List Share)
    (granted : List Brought) (frames : List Frame) (fresh : List Offer)
    → count + 1 ≡ number → length fresh ≡ min 1 (length frames)
    → Each (λ (offer : Offer). offer.frames ≡ frames) fresh
    → Accounted number count wanted offers shares granted
    → Accounted number (count + 1) (wanted ++ frames) (offers ++ fresh) (shares ++ [])
    (granted ++ [])
accounted-wants number count wanted offers shares granted frames fresh mine one same k =
    let none : wanted ≡ [] = k.future (omega (arith, mine)) in
    let empty : length wanted ≡ 0 = ap (λ (xs : List Frame). length xs) none in
    let once : length offers + length shares ≡ min 1 (length wanted) = k.once in
    let no_offers : offers ≡ [] = no_items offers (omega (arith, once, empty)) in
    let no_shares : shares ≡ [] = no_items shares (omega (arith, once, empty)) in
    let given : map frames_brought granted ≡ [] =
    k.first_given ∙ ap (λ (xs : List Share). map (λ (share : Share). take share.given wanted) xs)
    no_shares in
    let no_granted : granted ≡ [] = no_image frames_brought granted given in
    rw (none, no_offers, no_shares, no_granted) (record {
      once = omega (arith, one);
      offered = same;
      counted = tt;
      one_cause = tt;
      first_given = refl;
      future = λ above. absurd (omega (arith, above, mine));
    })

-- the Grant of it
pub accounted-grants :
    (number count : ℕ) (wanted : List Frame) (offer : Offer) (offers : List Offer)
    (shares : List Share) (granted : List Brought) (share : Share) (gift : Brought)
    → share.given + share.full + share.gone ≡ length offer.frames
    → (share.full ≡ 0) ⊎ (share.gone ≡ 0) → gift.frames ≡ take share.given offer.frames
    → Accounted number count wanted (offer ∷ offers) shares granted
    → Accounted number (count + 1) (wanted ++ []) offers (shares ++ share ∷ [])
    (granted ++ gift ∷ [])
accounted-grants number count wanted offer offers shares granted share gift sum cause prefix k =
    let same : offer.frames ≡ wanted = k.offered.0 in
    let size : length offer.frames ≡ length wanted = ap (λ (xs : List Frame). length xs) same in
    let once : length (offer ∷ offers) + length shares ≡ min 1 (length wanted) = k.once in
    let longer = length-append shares (share ∷ []) in
    let front : gift.frames ≡ take share.given wanted =
    prefix ∙ ap (λ (xs : List Frame). take share.given xs) same in
    rw (append-nil wanted) (record {
      once = omega (arith, once, longer);
      offered = k.offered.1;
      counted =
          each-append (λ (share : Share). share.given + share.full + share.gone ≡ length wanted)
          shares (share ∷ []) k.counted (sum ∙ size, tt);
      one_cause =
          each-append (λ (share : Share). (share.full ≡ 0) ⊎ (share.gone ≡ 0)) shares (share ∷ [])
          k.one_cause (cause, tt);
      first_given =
          rw (
            map-append frames_brought granted (gift ∷ []),
            map-append
                (λ (share : Share). take share.given wanted) shares (share ∷ []),
          )
          (given_more (map frames_brought granted)
          (map (λ (share : Share). take share.given wanted) shares) gift.frames
          (take share.given wanted) k.first_given front);
      future = λ above. k.future (omega (arith, above));
    })
  where
    given_more :
        (xs ys : List (List Frame)) (x y : List Frame) → xs ≡ ys → x ≡ y
        → xs ++ x ∷ [] ≡ ys ++ y ∷ []
    given_more xs ys x y e f = rw (e, f) refl

-- what a grant gives is a front of the offer
fitting_by :
    (frame : Frame) (frames rest : List Frame) (b : Bool) → rest ≡ take (length rest) frames
    → cond b (frame ∷ rest) [] ≡ take (length (cond b (frame ∷ rest) [])) (frame ∷ frames)
fitting_by frame frames rest true e = ap (λ (xs : List Frame). frame ∷ xs) e
fitting_by frame frames rest false e = refl

pub fitting-front :
    (room : ℕ) (frames : List Frame)
    → longest_fitting room frames ≡ take (length (longest_fitting room frames)) frames
fitting-front room [] = refl
fitting-front room (frame ∷ frames) =
    fitting_by frame frames (longest_fitting (room - slots_of frame) frames)
    (nat_le (slots_of frame) room) (fitting-front (room - slots_of frame) frames)

fitting_few :
    (frame : Frame) (frames rest : List Frame) (b : Bool) → length rest ≤ length frames
    → length (cond b (frame ∷ rest) []) ≤ length (frame ∷ frames)
fitting_few frame frames rest true e = omega arith
fitting_few frame frames rest false e = omega arith

pub fitting-few :
    (room : ℕ) (frames : List Frame) → length (longest_fitting room frames) ≤ length frames
fitting-few room [] = omega arith
fitting-few room (frame ∷ frames) =
    fitting_few frame frames (longest_fitting (room - slots_of frame) frames)
    (nat_le (slots_of frame) room) (fitting-few (room - slots_of frame) frames)
