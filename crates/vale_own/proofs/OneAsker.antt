-- All offers of one entry are of one session.
use Rattle.std.proofs.Common.{ℕ, ◌+◌, ◌≡◌, arith, ◌⊎◌, inl, inr, List, [], ◌++◌, refl}
use Rattle.std.specs.List.{AllByRecursion as Each}
use Rattle.std.proofs.lemmas.Bool.{cases_eq}
use Rattle.nm_types.specs.Frames.{Frame}
use Rattle.vale_entry.specs.declared.entry.Entry.{Entry}
use Rattle.vale_entry.specs.World.{World, Port, Offer}
use Rattle.vale_entry.specs.Offers.{offers_of}
use Rattle.vale_entry.specs.Legal.{Standing, Outcome, after, fresh_standing}
use Rattle.vale_entry.specs.Laws.{IsFrom}
use Rattle.vale_entry.proofs.Steps.{standing-by}
use Rattle.vale_entry.proofs.Follows.{EachKind, after-by}
use Rattle.vale_entry.proofs.Numbered.{Numbered, numbered_entry, world-numbered}
use Rattle.vale_entry.proofs.Each.{each-append, each-weaker, each-offers_of, each-without_first}
use Rattle.vale_own.specs.Laws.{OffersAreOfOneSession, EntriesHaveOneAsker}

abbrev pub OneAsker : Standing → Type 0
OneAsker s = OffersAreOfOneSession s.world.offers

abbrev OneAskerNext : Outcome → Type 0
OneAskerNext made = OneAsker made.next

-- the offers of a new entry, the number of which is past all others
one-more : (w : World) (owner : ℕ) (wanted : Port → List Frame) → Each (IsFrom w.entry_count) w.offers → OffersAreOfOneSession w.offers
    → OffersAreOfOneSession (w.offers ++ offers_of (w.entry_count + 1) owner wanted w.ports)
one-more w owner wanted within one origin = by_origin (cases_eq (w.entry_count + 1) origin)
  where
    by_origin : (w.entry_count + 1 ≡ origin) ⊎ (w.entry_count + 1 ≡ origin → ⊥)
        → (k : ℕ) × Each (λ (offer : Offer). offer.origin ≡ origin → offer.session ≡ k) (w.offers ++ offers_of (w.entry_count + 1) owner wanted w.ports)
    by_origin (inl same) = (
      owner,
      each-append (λ (offer : Offer). offer.origin ≡ origin → offer.session ≡ owner) w.offers (offers_of (w.entry_count + 1) owner wanted w.ports)
          (each-weaker (IsFrom w.entry_count) (λ (offer : Offer). offer.origin ≡ origin → offer.session ≡ owner)
          (λ offer before here. absurd (omega arith)) w.offers within)
          (each-offers_of (λ (offer : Offer). offer.origin ≡ origin → offer.session ≡ owner) (w.entry_count + 1) owner wanted (λ to frames here. refl) w.ports),
    )
    by_origin (inr other) = (
      (one origin).0,
      each-append (λ (offer : Offer). offer.origin ≡ origin → offer.session ≡ (one origin).0) w.offers (offers_of (w.entry_count + 1) owner wanted w.ports)
          (one origin).1
          (each-offers_of (λ (offer : Offer). offer.origin ≡ origin → offer.session ≡ (one origin).0) (w.entry_count + 1) owner wanted (λ to frames here. absurd (other here)) w.ports),
    )

one_kinds : (s : Standing) → Numbered s → OneAsker s → EachKind s (λ ask made. OneAskerNext made)
one_kinds s n one = record {
  enters = λ user fits. one;
  quiet = λ ask session reply quiet. one;
  opens = λ session name tx rx extra can refusal. one;
  sends = λ from frames port e can settled. one-more s.world port.session _ n.offers_within one;
  grants = λ origin to offer first same session.
      ((one session).0, each-without_first (λ (o : Offer). o.origin ≡ session → o.session ≡ (one session).0) offer.origin s.world.offers (one session).1);
  completes = λ lease lot e. one;
  receives = λ ask at back port receives e can. one-more s.world port.session _ n.offers_within one;
  puts = λ at offered items port peer e can found. one-more s.world port.session _ n.offers_within one;
  watches = λ at target sides port found e can there none. one;
  shuts = λ at port e settled. one;
  finishes = λ at bufs chain port fits e can out. one;
  leaves = λ session can. one;
}

one_asker : (s : Standing) (e : Entry) → Numbered s → OneAsker s → OneAsker (after s e)
one_asker s e n one = after-by s OneAsker e one (one_kinds s n one)

pub entries-have-one-asker : EntriesHaveOneAsker
entries-have-one-asker pool h =
    (standing-by (λ (s : Standing). Numbered s × OneAsker s) (λ s e k. (numbered_entry s e k.0, one_asker s e k.0 k.1)) (fresh_standing pool) h
    (world-numbered pool [], λ origin. (0, tt))).1
