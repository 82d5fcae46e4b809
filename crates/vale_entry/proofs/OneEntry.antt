-- A session has at most one entry that is not settled: all its offers that are not granted are of
-- one.
use Rattle.std.proofs.Common.{ℕ, ◌+◌, ◌≡◌, true, false, ◌==◌, ◌⊎◌, inl, inr, List, ◌++◌, refl, sym, ◌∙◌}
use Rattle.std.specs.List.{AllByRecursion as Each}
use Rattle.std.proofs.lemmas.Bool.{eqb-false, cases_eq}
use Rattle.nm_types.specs.Frames.{Frame}
use Rattle.vale_entry.specs.declared.entry.Entry.{Entry}
use Rattle.vale_entry.specs.World.{World, Port, Offer, is_settled}
use Rattle.vale_entry.specs.Offers.{offers_of}
use Rattle.vale_entry.specs.Legal.{Standing, Outcome, after}
use Rattle.vale_entry.specs.Laws.{OffersAreOfOneEntry}
use Rattle.vale_entry.proofs.Follows.{EachKind, after-by}
use Rattle.vale_entry.proofs.Closings.{settled-none}
use Rattle.vale_entry.proofs.Each.{each-append, each-weaker, each-offers_of, each-without_first}

abbrev pub OneEntry : Standing → Type 0
OneEntry s = OffersAreOfOneEntry s.world.offers

abbrev OneEntryNext : Outcome → Type 0
OneEntryNext made = OneEntry made.next

-- the offers of a new entry, where its session has none
one-more :
    (w : World) (origin owner : ℕ) (wanted : Port → List Frame) → is_settled w owner ≡ true
    → OffersAreOfOneEntry w.offers
    → OffersAreOfOneEntry (w.offers ++ offers_of origin owner wanted w.ports)
one-more w origin owner wanted settled one session = by_session (cases_eq owner session)
  where
    by_session : (owner ≡ session) ⊎ (owner ≡ session → ⊥)
        → (k : ℕ)
        × Each (λ (offer : Offer). offer.session ≡ session → offer.origin ≡ k)
        (w.offers ++ offers_of origin owner wanted w.ports)
    by_session (inl same) = (
      origin,
      each-append (λ (offer : Offer). offer.session ≡ session → offer.origin ≡ origin) w.offers
          (offers_of origin owner wanted w.ports)
          (each-weaker (λ (offer : Offer). (offer.session == owner) ≡ false)
          (λ (offer : Offer). offer.session ≡ session → offer.origin ≡ origin)
          (λ offer other here. absurd (eqb-false offer.session owner other (here ∙ sym same)))
          w.offers (settled-none w owner settled))
          (each-offers_of (λ (offer : Offer). offer.session ≡ session → offer.origin ≡ origin) origin
          owner wanted (λ to frames here. refl) w.ports),
    )
    by_session (inr other) = (
      (one session).0,
      each-append (λ (offer : Offer). offer.session ≡ session → offer.origin ≡ (one session).0)
          w.offers (offers_of origin owner wanted w.ports)
          (one session).1
          (each-offers_of
          (λ (offer : Offer). offer.session ≡ session → offer.origin ≡ (one session).0) origin owner
          wanted (λ to frames here. absurd (other here)) w.ports),
    )

one_kinds : (s : Standing) → OneEntry s → EachKind s (λ ask made. OneEntryNext made)
one_kinds s one = record {
  enters = λ user fits. one;
  quiet = λ ask session reply quiet. one;
  opens = λ session name tx rx extra can refusal. one;
  sends =
      λ from frames port e can settled. one-more s.world (s.world.entry_count + 1) port.session _
      settled one;
  grants = λ origin to offer first same session. (
    (one session).0,
    each-without_first
        (λ (o : Offer). o.session ≡ session → o.origin ≡ (one session).0) offer.origin s.world.offers
        (one session).1,
  );
  completes = λ lease lot e. one;
  receives =
      λ ask at back port receives e can. one-more s.world (s.world.entry_count + 1) port.session _
      can.settled one;
  puts =
      λ at offered items port peer e can found. one-more s.world (s.world.entry_count + 1)
      port.session _ can.settled one;
  watches = λ at target sides port found e can there none. one;
  shuts = λ at port e settled. one;
  finishes = λ at bufs chain port fits e can out. one;
  leaves = λ session can. one;
}

pub one_entry : (s : Standing) (e : Entry) → OneEntry s → OneEntry (after s e)
one_entry s e one = after-by s OneEntry e one (one_kinds s one)
