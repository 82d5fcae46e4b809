-- The offers that a call starts are of the session whose entry it made, for which its pass speaks.
use Rattle.std.proofs.Common.{ℕ, ◌+◌, ◌≤◌, ◌≡◌, Bool, true, false, ◌==◌, List, [], ◌∷◌, ◌++◌, length, filter, refl, sym, ◌∙◌, ap, subst, arith, length-append}
use Rattle.std.specs.List.{AllByRecursion as Each}
use Rattle.std.proofs.lemmas.Bool.{eqb-true, eq-eqb}
use Rattle.nm_turn.specs.Numbered.{Stands}
use Rattle.nm_turn.proofs.Numbered.{Stands-left}
use Rattle.vale_entry.specs.declared.entry.Ask.{Ask}
use Rattle.vale_entry.specs.declared.entry.Entry.{Entry}
use Rattle.vale_entry.specs.World.{Offer}
use Rattle.vale_entry.specs.Offers.{is_offer_of}
use Rattle.vale_entry.specs.Laws.{IsFrom}
use Rattle.vale_entry.specs.Legal.{standing_of, world_of, IsLegal}
use Rattle.vale_entry.proofs.Each.{each-find}
use Rattle.vale_entry.proofs.Removals.{each-filter}
use Rattle.vale_entry.proofs.ListLaws.{place-of}
use Rattle.vale_entry.proofs.Numbered.{world-numbered}
use Rattle.vale_entry.proofs.Worlds.{count-world_of}
use Rattle.vale_own.specs.Own.{Own, own_of, is_offer_by}
use Rattle.vale_own.specs.Asker.{is_enter}
use Rattle.vale_own.proofs.OwnKept.{own-entry, legal-split}
use Rattle.vale_own.proofs.Reading.{offers-left}
use Rattle.vale_book.specs.Offering.{OffersState, OffersStand}
use Rattle.vale_book.specs.Recorded.{Recorded, standing, after_ask, entry_of}
use Rattle.vale_fabric.specs.declared.kept.Fixed.{Fixed}
use Rattle.vale_fabric.specs.Fabrics.{Knowing, MayAsk}
use Rattle.vale_fabric.specs.Steps.{IsTaken, IsPutBack}
use Rattle.vale_fabric.proofs.Acting.{Acts, acted}
use Rattle.vale_book.proofs.Said.{Steps, stored}
use Rattle.vale_fabric.proofs.Making.{whose-now}
use Rattle.vale_book.proofs.OffersHeld.{Next, next-of, filtered}

-- offers of the last entry are of its session
pub last-by : (pool : ℕ) (h : List Entry) (e : Entry) (o : OffersState) → IsLegal pool (h ++ e ∷ []) → OffersStand (standing_of pool (h ++ e ∷ [])) o → o.entry ≡ length h + 1
    → 1 ≤ length o.wants → o.session ≡ e.session.0
last-by pool h e o legal st last some = by (e.session.0 == o.session) refl
  where
    by : (b : Bool) → (e.session.0 == o.session) ≡ b → o.session ≡ e.session.0
    by true t = sym (eqb-true e.session.0 o.session t)
    by false t =
        let parts = legal-split pool h (e ∷ []) legal in
        let n : Next (world_of pool (h ++ e ∷ [])) o = next-of (standing_of pool (h ++ e ∷ [])) o some st in
        let of = place-of (is_offer_of o.entry) (world_of pool (h ++ e ∷ [])).offers n.offer n.first in
        let other = own-entry pool h e o.session parts.0 parts.1.0 (λ same. absurd (let equal = eq-eqb e.session.0 o.session same in cc)) in
        let all : filter (is_offer_of o.entry) (world_of pool (h ++ e ∷ [])).offers ≡ filter (is_offer_by o.session) (world_of pool h).offers =
        offers-left pool (h ++ e ∷ []) o.entry n.offer legal n.first
        ∙ (ap (λ (session : ℕ). (own_of session (standing_of pool (h ++ e ∷ []))).offers) n.by ∙ ap (λ (own : Own). own.offers) other) in
        let old = each-filter (IsFrom (world_of pool h).entry_count) (is_offer_by o.session) (world_of pool h).offers (world-numbered pool h).offers_within in
        let each = filtered (IsFrom (world_of pool h).entry_count) (is_offer_of o.entry) (world_of pool (h ++ e ∷ [])).offers (subst (Each (IsFrom (world_of pool h).entry_count)) (sym all) old) in
        let low = each-find (λ (z : Offer). is_offer_of o.entry z ≡ true → IsFrom (world_of pool h).entry_count z) (is_offer_of o.entry) (world_of pool (h ++ e ∷ [])).offers n.offer each n.first of.passes in
        let origin = eqb-true n.offer.origin o.entry of.passes in
        let count = count-world_of pool h in
        absurd (omega (arith, low, origin, count, last))

pub offers-by : {fixed : Fixed} {v entered : Knowing} {b after : Recorded} {ask : Ask} (o : OffersState) (may : MayAsk fixed v ask) → IsTaken fixed v entered b → is_enter ask ≡ false → (steps : Steps b ask)
    → after ≡ after_ask b ask → IsLegal after.pool after.entries → OffersStand (standing after) o → o.entry ≡ length after.entries → 1 ≤ length o.wants → o.session ≡ may.session
offers-by {fixed} {v} {entered} {b} {after} {ask} o may taken other steps grown legal st last some =
    let e = entry_of ask steps.makes in
    let is = stored steps grown in
    let long : length after.entries ≡ length b.entries + 1 = ap (λ (r : Recorded). length r.entries) is ∙ length-append b.entries (e ∷ []) in
    last-by b.pool b.entries e o (subst (λ (r : Recorded). IsLegal r.pool r.entries) is legal) (subst (λ (r : Recorded). OffersStand (standing r) o) is st) (last ∙ long) some
    ∙ whose-now may taken other steps

pub speaks-on : {fixed : Fixed} {v entered w : Knowing} {b after : Recorded} {ask : Ask} (o : OffersState) → MayAsk fixed v ask → IsTaken fixed v entered b → is_enter ask ≡ false → Acts b after ask
    → IsPutBack entered w after → OffersStand (standing after) o → o.entry ≡ length after.entries → 1 ≤ length o.wants → Stands o.session w.mine
speaks-on {fixed} {v} {entered} {w} {b} {after} {ask} o may taken other acts back st last some =
    let whose = offers-by o may taken other acts.steps acts.grown back.legal st last some in
    subst (Stands o.session) (sym (acted taken back acts).makes.told.mine) (Stands-left o.session v.mine _ (subst (λ (n : ℕ). Stands n v.mine) (sym whose) may.speaks))
