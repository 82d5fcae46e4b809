-- The offers at hand: entries of others leave them as they are, and their own grant takes the first.
use Rattle.std.proofs.Common.{ℕ, ◌≤◌, ◌≡◌, Bool, true, false, cond, ◌&&◌, ◌==◌, List, [], ◌∷◌, ◌++◌, filter, find, drop, length, Option, Some, None, refl, sym, ◌∙◌, ap, subst, arith}
use Rattle.std.specs.Prelude.{option_map}
use Rattle.std.specs.List.{AllByRecursion as Each}
use Rattle.std.proofs.lemmas.Bool.{eqb-true, eq-eqb}
use Rattle.nm_types.specs.Frames.{Frame}
use Rattle.nm_types.specs.declared.id.PortId.{PortId}
use Rattle.vale_batch.specs.Wants.{Wanted}
use Rattle.vale_entry.specs.declared.entry.Ask.{Ask}
use Rattle.vale_entry.specs.declared.entry.Ask.TheVariants.{Grant}
use Rattle.vale_entry.specs.declared.entry.Entry.{Entry}
use Rattle.vale_entry.specs.World.{World, Offer}
use Rattle.vale_entry.specs.Offers.{is_offer_of}
use Rattle.vale_entry.specs.Grant.{first_offer, without_first}
use Rattle.vale_entry.specs.Legal.{Standing, Outcome, step, standing_of, world_of, is_enabled, is_met, is_offer_next, grant_step, grant_step_at, recorded_step, standing_after, IsLegal, Follows}
use Rattle.vale_entry.proofs.Each.{each-find, each-without_first}
use Rattle.vale_entry.proofs.Removals.{each-kept}
use Rattle.vale_entry.proofs.ListLaws.{place-of}
use Rattle.vale_entry.proofs.Worlds.{standing-push, count-world_of}
use Rattle.vale_own.specs.Own.{own_of}
use Rattle.vale_own.specs.Asker.{asks, asker_of, is_asker, owner_of_offer}
use Rattle.vale_own.proofs.Asking.{own-tells}
use Rattle.vale_own.proofs.Reading.{offers-left}
use Rattle.vale_parts.specs.Batches.{AreOffersOf}
use Rattle.vale_parts.specs.Offering.{OffersAre, offers_at, wants_after}
use Rattle.vale_parts.proofs.OffersKept.{first_next, offers_follow}
use Rattle.vale_steps.specs.Offering.{OffersState, OffersStand, IsOfferBy}
use Rattle.vale_book.specs.Leases.{StandOf}
use Rattle.vale_book.proofs.Said.{and-first, and-second}

-- the first of them is that of an offer of their session
pub record Next (w : World) (o : OffersState) : Type 0 where
  pub offer : Offer
  pub first : first_offer w o.entry ≡ Some offer
  pub by : offer.session ≡ o.session

pub filtered : {X : Type 0} (P : X → Type 0) (test : X → Bool) (xs : List X) → Each P (filter test xs) → Each (λ (x : X). test x ≡ true → P x) xs
filtered P test [] all = tt
filtered {X} P test (x ∷ xs) all = by (test x) refl (filtered P test xs) all
  where
    by : (b : Bool) → test x ≡ b → (Each P (filter test xs) → Each (λ (y : X). test y ≡ true → P y) xs) → Each P (cond b (x ∷ filter test xs) (filter test xs))
        → Each (λ (y : X). test y ≡ true → P y) (x ∷ xs)
    by true t rest all = (λ is. all.0, rest all.1)
    by false t rest all = (λ is. absurd cc, rest all)

first-of : (w : World) (origin : ℕ) (frames : List Frame) (wants : List Wanted) → 1 ≤ length wants → OffersAre w origin frames wants → (offer : Offer) × (first_offer w origin ≡ Some offer)
first-of w origin frames [] some are = absurd (omega (arith, some))
first-of w origin frames (want ∷ wants) some are = let n = first_next w origin frames want wants are in (n.offer, n.first)

pub next-of : (s : Standing) (o : OffersState) → 1 ≤ length o.wants → OffersStand s o → Next s.world o
next-of s o some st =
    let first = first-of s.world o.entry st.frames o.wants some st.are in
    let of = place-of (is_offer_of o.entry) s.world.offers first.0 first.1 in
    record {
      offer = first.0;
      first = first.1;
      by = each-find (λ (x : Offer). is_offer_of o.entry x ≡ true → x.session ≡ o.session) (is_offer_of o.entry) s.world.offers first.0
          (filtered (IsOfferBy o.session) (is_offer_of o.entry) s.world.offers st.by) first.1 of.passes;
    }

abbrev grant_of : OffersState → Offer → Ask
grant_of o offer = Grant o.entry (record { 0 = offer.to })

asks-next : (s : Standing) (o : OffersState) (n : Next s.world o) → asks s o.session (grant_of o n.offer) ≡ true
asks-next s o n =
    let to : (n.offer.to == n.offer.to) ≡ true = eq-eqb n.offer.to n.offer.to refl in
    let by : (n.offer.session == o.session) ≡ true = eq-eqb n.offer.session o.session n.by in
    ap (λ (found : Option Offer). is_met (is_offer_next n.offer.to) found && is_asker (option_map owner_of_offer found) o.session) n.first
    ∙ (ap (λ (b : Bool). b && (n.offer.session == o.session)) to ∙ by)

next-by : (found : Option Offer) (to session : ℕ) → is_met (is_offer_next to) found ≡ true → is_asker (option_map owner_of_offer found) session ≡ true → (offer : Offer) × (found ≡ Some offer) × (offer.session ≡ session)
next-by None to session met by = absurd cc
next-by (Some offer) to session met by = (offer, refl, eqb-true offer.session session by)

-- Offers are a session's own: where that is what it was, they stand as they did.
module _ (pool : ℕ) (h k : List Entry) (o : OffersState) (legal : IsLegal pool h) (later : IsLegal pool k)
    (same : (own_of o.session (standing_of pool k)).offers ≡ (own_of o.session (standing_of pool h)).offers)
    (some : 1 ≤ length o.wants) (frames : List Frame) (of : StandOf (standing_of pool h) o frames) where
  before : Next (world_of pool h) o
  before = next-of (standing_of pool h) o some of.stand

  asked : asks (standing_of pool k) o.session (grant_of o before.offer) ≡ true
  asked =
      own-tells pool k o.session (grant_of o before.offer) later
      ∙ (ap (λ (offers : List Offer). is_met (is_offer_next before.offer.to) (find (is_offer_of o.entry) offers)) same
      ∙ (sym (own-tells pool h o.session (grant_of o before.offer) legal) ∙ asks-next (standing_of pool h) o before))

  there : (offer : Offer) × (first_offer (world_of pool k) o.entry ≡ Some offer) × (offer.session ≡ o.session)
  there =
      next-by (first_offer (world_of pool k) o.entry) before.offer.to o.session
      (and-first (is_enabled (standing_of pool k) (grant_of o before.offer)) (is_asker (asker_of (standing_of pool k) (grant_of o before.offer)) o.session) asked)
      (and-second (is_enabled (standing_of pool k) (grant_of o before.offer)) (is_asker (asker_of (standing_of pool k) (grant_of o before.offer)) o.session) asked)

  own-offers : (g : List Entry) → IsLegal pool g → (offer : Offer) → first_offer (world_of pool g) o.entry ≡ Some offer → offer.session ≡ o.session
      → offers_at (world_of pool g) o.entry ≡ (own_of o.session (standing_of pool g)).offers
  own-offers g fine offer first by = offers-left pool g o.entry offer fine first ∙ ap (λ (n : ℕ). (own_of n (standing_of pool g)).offers) by

  all-same : offers_at (world_of pool h) o.entry ≡ offers_at (world_of pool k) o.entry
  all-same = own-offers h legal before.offer before.first before.by ∙ (sym same ∙ sym (own-offers k later there.0 there.1 there.2))

  pub offers-stand : StandOf (standing_of pool k) o frames
  offers-stand =
      let st = of.stand in record {
        stand = record {
          frames = st.frames;
          are = subst (AreOffersOf st.frames o.wants) all-same st.are;
          by = subst (Each (IsOfferBy o.session)) all-same st.by;
        };
        frames_are = of.frames_are;
      }

-- Their own grant takes the first.

pub granted-at : (s : Standing) (to : ℕ) (found : Option Offer) (made : Outcome) → grant_step_at s to found ≡ Some made
    → (offer : Offer) × (found ≡ Some offer) × (made ≡ grant_step s offer) × (offer.to ≡ to)
granted-at s to None made e = absurd cc
granted-at s to (Some offer) made e = by (is_offer_next to offer) refl e
  where
    by : (b : Bool) → is_offer_next to offer ≡ b → cond b (Some (grant_step s offer)) None ≡ Some made
        → (other : Offer) × (Some offer ≡ Some other) × (made ≡ grant_step s other) × (other.to ≡ to)
    by true t e = (offer, refl, cc, eqb-true offer.to to t)
    by false t e = absurd cc

-- its session is theirs
pub granter : (s : Standing) (o : OffersState) (to : PortId) (made : Outcome) → 1 ≤ length o.wants → OffersStand s o → step s (Grant o.entry to) ≡ Some made → made.session ≡ o.session
granter s o to made some st is =
    let n = next-of s o some st in
    let g = granted-at s to.0 (first_offer s.world o.entry) made is in
    let same : g.0 ≡ n.offer = let e = sym g.1 ∙ n.first in cc in
    ap (λ (m : Outcome). m.session) g.2 ∙ (ap (λ (x : Offer). x.session) same ∙ n.by)

pub offers-after : (pool : ℕ) (h : List Entry) (o : OffersState) (to : PortId) (e : Entry) (made : Outcome) → e.ask ≡ Grant o.entry to → Follows (standing_of pool h) e
    → step (standing_of pool h) (Grant o.entry to) ≡ Some made → o.entry ≤ length h → (frames : List Frame) → StandOf (standing_of pool h) o frames
    → StandOf (standing_of pool (h ++ e ∷ [])) (record o { wants = drop 1 o.wants }) frames
offers-after pool h o to e made asked follows is old frames of =
    let s = standing_of pool h in
    let st = of.stand in
    let count = count-world_of pool h in
    let follow = offers_follow pool h e o.entry st.frames o.wants follows (omega (arith, count, old)) st.are in
    let less : wants_after o.entry e.ask o.wants ≡ drop 1 o.wants = ap (λ (a : Ask). wants_after o.entry a o.wants) asked ∙ ap (λ (b : Bool). cond b (drop 1 o.wants) o.wants) (eq-eqb o.entry o.entry refl) in
    let g = granted-at s to.0 (first_offer s.world o.entry) made is in
    let recorded : recorded_step s e.ask e.reply ≡ Some made = ap (λ (a : Ask). recorded_step s a e.reply) asked ∙ is in
    let left : (world_of pool (h ++ e ∷ [])).offers ≡ without_first g.0.origin s.world.offers =
    ap (λ (t : Standing). t.world.offers) (standing-push pool h e)
    ∙ (ap (λ (found : Option Outcome). (standing_after s e found).world.offers) recorded ∙ ap (λ (m : Outcome). m.next.world.offers) g.2) in
    let mine = filtered (IsOfferBy o.session) (is_offer_of o.entry) s.world.offers st.by in
    record {
      stand = record {
        frames = st.frames;
        are = subst (OffersAre (world_of pool (h ++ e ∷ [])) o.entry st.frames) less follow;
        by = each-kept (λ (x : Offer). is_offer_of o.entry x ≡ true → IsOfferBy o.session x) (IsOfferBy o.session) (is_offer_of o.entry) (λ x t all. all t) (world_of pool (h ++ e ∷ [])).offers
            (subst (Each (λ (x : Offer). is_offer_of o.entry x ≡ true → IsOfferBy o.session x)) (sym left)
            (each-without_first (λ (x : Offer). is_offer_of o.entry x ≡ true → IsOfferBy o.session x) g.0.origin s.world.offers mine));
      };
      frames_are = of.frames_are;
    }
