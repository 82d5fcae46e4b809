-- The entries that settle a session leave its side as it is.
use Rattle.std.proofs.Common.{ℕ, zero, suc, ◌+◌, ◌-◌, ◌≡◌, ◌⊎◌, ⊎_elim, inl, inr, List, [], ◌∷◌, ◌++◌, length, sym, ap, subst, arith, slice_get, append_assoc, append-nil, refl, ◌∙◌, Option, Some}
use Rattle.std.specs.Prelude.{min}
use Rattle.std.specs.List.{AllByRecursion as Each}
use Rattle.std.proofs.Math.Nat.{min-eq_left}
use mathlib.Core.Logic.{dite}
use native.Mathlib.Decide.{ℕ_discrete}
use Rattle.nm_types.specs.declared.id.LeaseId.{LeaseId}
use Rattle.nm_types.specs.declared.id.PortId.{PortId}
use Rattle.nm_types.specs.OwnPorts.{OwnState, Arrival}
use Rattle.nm_turn.specs.Numbered.{Stands}
use Rattle.nm_turn.proofs.Numbered.{Stands-left}
use Rattle.nm_turn.proofs.Prefixes.{get_right, prefix_length}
use Rattle.vale_entry.specs.declared.entry.Ask.{Ask}
use Rattle.vale_entry.specs.declared.entry.Ask.TheVariants.{Grant, Done}
use Rattle.vale_entry.specs.declared.entry.Reply.{Reply}
use Rattle.vale_entry.specs.declared.entry.Entry.{Entry}
use Rattle.vale_entry.specs.World.{Offer}
use Rattle.vale_entry.specs.Arrivals.{arrivals_of}
use Rattle.vale_entry.specs.OwnCalls.{own_by}
use Rattle.vale_entry.specs.Legal.{standing_of, kept_ask, IsLegal, Follows}
use Rattle.vale_own.specs.Laws.{IsOfOther}
use Rattle.vale_own.specs.Own.{Own, HeldLot, own_of}
use Rattle.vale_own.specs.Side.{IsSoundSideOf, IsOfSide, shut_after}
use Rattle.vale_own.proofs.OwnKept.{own-entry, legal-split}
use Rattle.vale_own.proofs.SideKept.{side-kept}
use Rattle.vale_fabric.specs.declared.settling.Shares.{Shares}
use Rattle.vale_fabric.specs.Roots.{root_of}
use Rattle.vale_fabric.specs.Fabrics.{Knowing, entry_by}
use Rattle.vale_fabric.specs.Settling.{Settling, IsSettlingIn, settling_by}
use Rattle.nm_user.specs.Sessions.{SessionState}
use Rattle.nm_user.proofs.After.{IsHere}
use Rattle.nm_user.proofs.Later.{each-get}

-- an entry of any side, which leaves the side as it is
record IsStill (ask : Ask) : Type 0 where
  of : (shut : Option ℕ) (side : OwnState) (reply : Reply) → IsOfSide shut side ask reply
  same : (shut : Option ℕ) → shut_after ask shut ≡ shut
  keeps : (number : ℕ) (reply : Reply) (came : List Arrival) (side : OwnState) → own_by number ask reply came side ≡ side

grant-still : (origin : ℕ) (to : PortId) → IsStill (Grant origin to)
grant-still origin to = record { of = λ shut side reply. tt; same = λ shut. refl; keeps = λ number reply came side. refl }

done-still : (lease : LeaseId) → IsStill (Done lease)
done-still lease = record { of = λ shut side reply. tt; same = λ shut. refl; keeps = λ number reply came side. refl }

settler-still : (leases : List HeldLot) (offers : List Offer) (ask : Ask) → settling_by leases offers ≡ Some ask → IsStill (kept_ask ask)
settler-still [] [] ask e = absurd cc
settler-still [] (offer ∷ offers) ask e =
    let is : Grant offer.origin (record { 0 = offer.to }) ≡ ask = cc e in
    subst (λ (a : Ask). IsStill (kept_ask a)) is (grant-still offer.origin (record { 0 = offer.to }))
settler-still (lease ∷ leases) offers ask e =
    let is : Done (record { 0 = lease.0.number }) ≡ ask = cc e in
    subst (λ (a : Ask). IsStill (kept_ask a)) is (done-still (record { 0 = lease.0.number }))

-- an entry of another session, or one that leaves the side as it is
abbrev LeavesSide : ℕ → Entry → Type 0
LeavesSide session e = IsOfOther session e ⊎ ((e.session.0 ≡ session) × IsStill e.ask)

side-past : (pool : ℕ) (past : List Entry) (more : List Entry) (session : ℕ) (shut : Option ℕ) (side : OwnState) → IsLegal pool (past ++ more) → Each (LeavesSide session) more
    → IsSoundSideOf pool session shut (own_of session (standing_of pool past)) side → IsSoundSideOf pool session shut (own_of session (standing_of pool (past ++ more))) side
side-past pool past [] session shut side legal each of = subst (λ (h : List Entry). IsSoundSideOf pool session shut (own_of session (standing_of pool h)) side) (sym (append-nil past)) of
side-past pool past (e ∷ es) session shut side legal each of =
    let whole : past ++ e ∷ es ≡ (past ++ e ∷ []) ++ es = sym (append_assoc past (e ∷ []) es) in
    let parts = legal-split pool past (e ∷ es) legal in
    subst (λ (h : List Entry). IsSoundSideOf pool session shut (own_of session (standing_of pool h)) side) (sym whole)
    (side-past pool (past ++ e ∷ []) es session shut side (subst (IsLegal pool) whole legal) each.1 (one each.0 parts.0 parts.1.0))
  where
    one : LeavesSide session e → IsLegal pool past → Follows (standing_of pool past) e → IsSoundSideOf pool session shut (own_of session (standing_of pool (past ++ e ∷ []))) side
    one (inl other) before follows = subst (λ (o : Own). IsSoundSideOf pool session shut o side) (sym (own-entry pool past e session before follows other)) of
    one (inr mine) before follows =
        let still = mine.1 in
        let here = subst (λ (n : ℕ). IsSoundSideOf pool n shut (own_of n (standing_of pool past)) side) (sym mine.0) of in
        let kept = side-kept pool past e shut side before follows here (still.of shut side e.reply) in
        let came = arrivals_of (standing_of pool past) e.ask e.reply in
        subst (λ (n : ℕ). IsSoundSideOf pool n shut (own_of n (standing_of pool (past ++ e ∷ []))) side) mine.0
        (subst (λ (s : OwnState). IsSoundSideOf pool e.session.0 shut (own_of e.session.0 (standing_of pool (past ++ e ∷ []))) s) (still.keeps (length past + 1) e.reply came side)
        (subst (λ (o : Option ℕ). IsSoundSideOf pool e.session.0 o (own_of e.session.0 (standing_of pool (past ++ e ∷ []))) (own_by (length past + 1) e.ask e.reply came side)) (still.same shut) kept))

-- whether a number is among those of some entries, and where
pub stands-or : (n : ℕ) (xs : List (ℕ × Entry)) → ((k : ℕ) × (e : Entry) × (slice_get xs k ≡ Some (n, e))) ⊎ (Stands n xs → ⊥)
stands-or n [] = inr (λ s. s)
stands-or n (x ∷ xs) = dite (ℕ_discrete n x.0)
    (λ e. let is : slice_get (x ∷ xs) 0 ≡ Some (n, x.1) = ap (λ (m : ℕ). Some (m, x.1)) (sym e) in inl (0, x.1, is))
    (λ ne. ⊎_elim (λ (found : (k : ℕ) × (e : Entry) × (slice_get xs k ≡ Some (n, e))). inl (suc found.0, found.1, found.2))
    (λ (none : Stands n xs → ⊥). inr (λ s. ⊎_elim (λ (e : n ≡ x.0). ne e) none s)) (stands-or n xs))

each-at : {X : Type 0} (P : X → Type 0) (xs : List X) (k : ℕ) (x : X) → Each P xs → slice_get xs k ≡ Some x → P x
each-at P [] k x all e = absurd cc
each-at P (y ∷ ys) zero x all e = let is : y ≡ x = cc e in subst P is all.0
each-at P (y ∷ ys) (suc k) x all e = each-at P ys k x all.1 e

-- so the session is there as before, with what has been on its side
pub here-settled : {shut : Option ℕ} {s : SessionState} {x : Knowing} {shares : Shares} → IsHere shut s → Settling s.fixed s.knows x s.id shares → IsHere shut (record s { knows = x })
here-settled {shut} {s} {x} {shares} here settling =
    let pool = s.fixed.pool in
    let w = s.knows in
    let more = settling.told.begins.0 in
    let is : w.seen ++ more ≡ x.seen = settling.told.begins.1 in
    let long = prefix_length w.seen x.seen settling.told.begins in
    record {
      come = omega (arith, long, here.come);
      speaks = subst (Stands s.id) (sym settling.told.mine) (Stands-left s.id w.mine settling.added here.speaks);
      legal = settling.legal;
      side = subst (λ (h : List Entry). IsSoundSideOf pool s.id shut (own_of s.id (standing_of pool h)) s.own) is
          (side-past pool w.seen more s.id shut s.own (subst (IsLegal pool) (sym is) settling.legal)
          (each-get (LeavesSide s.id) more (λ k e at. leaves k e at (subst (λ (h : List Entry). slice_get h (length w.seen + k) ≡ Some e) is (get_right w.seen more k e at)))) here.side);
    }
  where
    leaves : (k : ℕ) (e : Entry) → slice_get settling.told.begins.0 k ≡ Some e → slice_get x.seen (length s.knows.seen + k) ≡ Some e → LeavesSide s.id e
    leaves k e within at = by (stands-or (length s.knows.seen + k + 1) settling.added)
      where
        number : ℕ
        number = length s.knows.seen + k + 1

        by : ((j : ℕ) × (f : Entry) × (slice_get settling.added j ≡ Some (number, f))) ⊎ (Stands number settling.added → ⊥) → LeavesSide s.id e
        by (inl found) =
            let same : number - 1 ≡ length s.knows.seen + k = omega arith in
            let there : slice_get x.seen (length s.knows.seen + k) ≡ Some found.1 = subst (λ (n : ℕ). slice_get x.seen n ≡ Some found.1) same (settling.told.stand found.0 number found.1 found.2).1 in
            let one : found.1 ≡ e = cc (sym there ∙ at) in
            let settles = each-at (IsSettlingIn s.fixed s.id x.seen) settling.added found.0 (number, found.1) settling.each found.2 in
            let entry : entry_by s.id settles.ask settles.reply ≡ e = sym settles.entry_is ∙ one in
            let still = settler-still _ _ settles.ask settles.next in
            inr (sym (ap (λ (z : Entry). z.session.0) entry), subst IsStill (ap (λ (z : Entry). z.ask) entry) still)
        by (inr none) = inl (λ mine.
            let root : root_of e number ≡ s.id = ap (λ (n : ℕ). min n number) mine ∙ min-eq_left (omega (arith, here.come)) in
            settling.told.others (length s.knows.seen + k) e (omega arith) at none (subst (λ (n : ℕ). Stands n s.knows.mine) (sym root) here.speaks))
