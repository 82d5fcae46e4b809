-- Offers stand in the order of the entries that made them, so that the first of all is the oldest.
use Rattle.std.proofs.Common.{ℕ, ◌+◌, ◌≤◌, ◌≡◌, Bool, true, false, cond, List, [], ◌∷◌, ◌++◌, refl, sym, subst, arith}
use Rattle.std.specs.List.{AllByRecursion as Each}
use Rattle.vale_entry.specs.World.{Offer}
use Rattle.vale_entry.specs.Offers.{is_offer_of}
use Rattle.vale_entry.specs.Grant.{without_first}
use Rattle.vale_entry.specs.Legal.{Standing, standing_of, world_of, IsLegal, Follows, offers_of_send, offers_of_sync, offers_of_put}
use Rattle.vale_entry.specs.Pipe.{frames_of_items}
use Rattle.vale_entry.specs.declared.entry.Entry.{Entry}
use Rattle.vale_entry.specs.Laws.{IsFrom, Climb, OffersClimb}
use Rattle.vale_entry.proofs.Each.{each-offers_of}
use Rattle.vale_entry.proofs.Worlds.{standing-push}
use Rattle.vale_entry.proofs.Told.{history-by}
use Rattle.vale_entry.proofs.Follows.{EachKind, after-by}
use Rattle.vale_entry.proofs.Numbered.{Numbered, world-numbered}

abbrev IsOf : ℕ → Offer → Type 0
IsOf number offer = offer.origin ≡ number

climb-lower :
    (low high : ℕ) (offers : List Offer) → low ≤ high → Climb high offers → Climb low offers
climb-lower low high [] le c = tt
climb-lower low high (o ∷ os) le c = let first = c.0 in (omega (arith, le, first), c.1)

climb-new :
    (low number : ℕ) (new : List Offer) → low ≤ number → Each (IsOf number) new → Climb low new
climb-new low number [] le same = tt
climb-new low number (o ∷ os) le same =
    let here = same.0 in
    (omega (arith, le, here), climb-new o.origin number os (omega (arith, here)) same.1)

climb-append :
    (low count : ℕ) (offers new : List Offer) → low ≤ count + 1 → Climb low offers
    → Each (IsFrom count) offers → Each (IsOf (count + 1)) new → Climb low (offers ++ new)
climb-append low count [] new le c within same = climb-new low (count + 1) new le same
climb-append low count (o ∷ os) new le c within same =
    let here = within.0 in
    (c.0, climb-append o.origin count os new (omega (arith, here)) c.1 within.1 same)

without_by :
    (low : ℕ) (o : Offer) (os fewer : List Offer) (hit : Bool) → low ≤ o.origin → Climb o.origin os
    → Climb o.origin fewer → Climb low (cond hit os (o ∷ fewer))
without_by low o os fewer true le c less = climb-lower low o.origin os le c
without_by low o os fewer false le c less = (le, less)

climb-without :
    (low origin : ℕ) (offers : List Offer) → Climb low offers
    → Climb low (without_first origin offers)
climb-without low origin [] c = tt
climb-without low origin (o ∷ os) c =
    without_by low o os (without_first origin os) (is_offer_of origin o) c.0 c.1
    (climb-without o.origin origin os c.1)

abbrev Climbing : Standing → Type 0
Climbing s = Climb 0 s.world.offers

climb_kinds : (s : Standing) → Numbered s → Climbing s → EachKind s (λ ask made. Climbing made.next)
climb_kinds s n k = record {
  enters = λ user fits. k;
  quiet = λ ask session reply quiet. k;
  opens = λ session name tx rx extra can refusal. k;
  sends =
      λ from frames port e can settled.
      more (offers_of_send s.world port frames)
      (each-offers_of (IsOf (s.world.entry_count + 1)) (s.world.entry_count + 1) port.session _
      (λ at fs. refl) s.world.ports);
  grants = λ origin to offer first same. climb-without 0 offer.origin s.world.offers k;
  completes = λ lease lot e. k;
  receives =
      λ ask at back port receives e can.
      more (offers_of_sync s.world port)
      (each-offers_of (IsOf (s.world.entry_count + 1)) (s.world.entry_count + 1) port.session _
      (λ at fs. refl) s.world.ports);
  puts = λ at offered items port peer e can found.
      more (offers_of_put s.world port (frames_of_items items))
      (each-offers_of (IsOf (s.world.entry_count + 1)) (s.world.entry_count + 1) port.session _
      (λ at fs. refl) s.world.ports);
  watches = λ at target sides port found e can there none. k;
  shuts = λ at port e settled. k;
  finishes = λ at bufs chain port fits e can out. k;
  leaves = λ session can. k;
}
  where
    more :
        (new : List Offer) → Each (IsOf (s.world.entry_count + 1)) new
        → Climb 0 (s.world.offers ++ new)
    more new same =
        climb-append 0 s.world.entry_count s.world.offers new (omega arith) k n.offers_within same

pub offers-climb : OffersClimb
offers-climb pool h legal =
    history-by pool (λ (h : List Entry). Climb 0 (world_of pool h).offers) keeps tt h legal
  where
    keeps :
        (h : List Entry) (e : Entry) → IsLegal pool h → Follows (standing_of pool h) e
        → Climb 0 (world_of pool h).offers → Climb 0 (world_of pool (h ++ e ∷ [])).offers
    keeps h e legal follows k =
        subst (λ (s : Standing). Climbing s) (sym (standing-push pool h e))
        (after-by (standing_of pool h) Climbing e k
        (climb_kinds (standing_of pool h) (world-numbered pool h) k))
