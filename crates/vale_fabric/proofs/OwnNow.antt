-- What is a session's own, from what its pass has seen to the book at its step.
use Rattle.std.proofs.Common.{ℕ, ◌≤◌, ◌≡◌, List, ◌++◌, drop, length, refl, sym, ◌∙◌, ap, subst, arith}
use Rattle.std.specs.Prelude.{option_map}
use Rattle.std.proofs.lemmas.Bool.{eqb-true}
use Rattle.nm_turn.specs.Numbered.{Stands}
use Rattle.nm_types.specs.Frames.{Frame}
use Rattle.nm_types.specs.declared.id.PortId.{PortId}
use Rattle.vale_entry.specs.declared.entry.Ask.TheVariants.{Grant}
use Rattle.vale_entry.specs.declared.entry.Entry.{Entry}
use Rattle.vale_entry.specs.Offers.{is_offer_of}
use Rattle.vale_entry.specs.Legal.{Standing, standing_of, session_and_reply, IsLegal}
use Rattle.vale_entry.proofs.Each.{each-find}
use Rattle.vale_entry.proofs.ListLaws.{place-of}
use Rattle.vale_entry.specs.Laws.{IsFrom}
use Rattle.vale_entry.proofs.Numbered.{world-numbered}
use Rattle.vale_entry.proofs.Worlds.{count-world_of}
use Rattle.vale_own.specs.Own.{Own, own_of}
use Rattle.vale_own.proofs.OwnKept.{own-kept, legal-split}
use Rattle.vale_book.specs.Offering.{OffersState, OffersStand}
use Rattle.vale_book.specs.Leases.{StandOf}
use Rattle.vale_book.specs.Recorded.{Recorded, standing, after_ask, entry_of}
use Rattle.vale_fabric.specs.declared.kept.Fixed.{Fixed}
use Rattle.vale_fabric.specs.Fabrics.{Knowing, seen_in}
use Rattle.vale_fabric.specs.Steps.{IsTaken}
use Rattle.vale_fabric.proofs.Others.{others-past}
use Rattle.vale_book.proofs.Said.{Steps, stored}
use Rattle.vale_book.proofs.OffersHeld.{Next, next-of, offers-stand, offers-after}

-- both histories are legal, and the session's own is the same after both
pub record SameOwn (fixed : Fixed) (v : Knowing) (b : Recorded) (session : ℕ) : Type 0 where
  pub pool : fixed.pool ≡ b.pool
  pub legal : IsLegal fixed.pool v.seen
  pub later : IsLegal fixed.pool b.entries
  pub same : own_of session (standing_of fixed.pool b.entries) ≡ own_of session (standing_of fixed.pool v.seen)

pub own-now : {fixed : Fixed} {v entered : Knowing} {b : Recorded} {session : ℕ} → IsTaken fixed v entered b → Stands session v.mine → SameOwn fixed v b session
own-now {fixed} {v} {entered} {b} {session} taken speaks =
    let o = others-past b.entries v.seen v.mine session taken.knows speaks in
    let pool : fixed.pool ≡ b.pool = ap (λ (r : Recorded). r.pool) taken.same in
    let later : IsLegal fixed.pool b.entries = subst (λ (p : ℕ). IsLegal p b.entries) (sym pool) taken.legal in
    let legal : IsLegal fixed.pool (v.seen ++ o.0) = subst (IsLegal fixed.pool) o.1 later in
    record {
      pool = pool;
      legal = (legal-split fixed.pool v.seen o.0 legal).0;
      later = later;
      same = ap (λ (h : List Entry). own_of session (standing_of fixed.pool h)) o.1 ∙ own-kept fixed.pool v.seen o.0 session legal o.2;
    }

pub stand-now : {fixed : Fixed} {v entered : Knowing} {b : Recorded} (o : OffersState) → IsTaken fixed v entered b → Stands o.session v.mine → 1 ≤ length o.wants
    → (frames : List Frame) → StandOf (standing (seen_in fixed v)) o frames → StandOf (standing b) o frames
stand-now {fixed} {v} {entered} {b} o taken speaks some frames of =
    let k : SameOwn fixed v b o.session = own-now taken speaks in
    subst (λ (p : ℕ). StandOf (standing_of p b.entries) o frames) k.pool
    (offers-stand fixed.pool v.seen b.entries o k.legal k.later (ap (λ (own : Own). own.offers) k.same) some frames of)

-- after their grant
pub stand-after : {b after : Recorded} (o : OffersState) (to : PortId) (steps : Steps b (Grant o.entry to)) → after ≡ after_ask b (Grant o.entry to) → 1 ≤ length o.wants
    → (frames : List Frame) → StandOf (standing b) o frames → StandOf (standing after) (record o { wants = drop 1 o.wants }) frames
stand-after {b} {after} o to steps grown some frames st =
    let n : Next (standing b).world o = next-of (standing b) o some st.stand in
    let count = count-world_of b.pool b.entries in
    let from = each-find (IsFrom (standing b).world.entry_count) (is_offer_of o.entry) (standing b).world.offers n.offer (world-numbered b.pool b.entries).offers_within n.first in
    let of = eqb-true n.offer.origin o.entry (place-of (is_offer_of o.entry) (standing b).world.offers n.offer n.first).passes in
    let old : o.entry ≤ length b.entries = omega (arith, count, from, of) in
    subst (λ (r : Recorded). StandOf (standing r) (record o { wants = drop 1 o.wants }) frames) (sym (stored steps grown))
    (offers-after b.pool b.entries o to (entry_of (Grant o.entry to) steps.makes) steps.makes refl (ap (option_map session_and_reply) steps.is) steps.is old frames st)

-- the same with no word on their frames
pub as-of : {s : Standing} {o : OffersState} (st : OffersStand s o) → StandOf s o st.frames
as-of st = record { stand = st; frames_are = refl }
