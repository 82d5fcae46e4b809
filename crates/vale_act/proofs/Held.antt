-- What all passes have together, as they change one after another.
use Rattle.std.proofs.Common.{◌≡◌, ℕ, zero, suc, List, [], ◌∷◌, ◌++◌, map, slice_get, slice_set, Some, refl, sym, ap, ◌∙◌, subst, append_assoc, append-nil}
use Rattle.std.specs.Prelude.{flat_map}
use Rattle.std.proofs.lemmas.List.{map-append}
use Rattle.nm_turn.specs.declared.view.Share.{Share}
use Rattle.nm_turn.specs.Rule.{part_of}
use Rattle.nm_turn.specs.Shares.{AddUp}
use Rattle.vale_fabric.specs.Fabrics.{Knowing}
use Rattle.vale_act.specs.Seats.{IsHeld, KeepHeld}
use Rattle.vale_act.specs.Units.{HaveWhole, knows_at}
use Rattle.vale_act.specs.declared.seat.Seat.{Seat}
use Rattle.vale_act.proofs.Weights.{add-moved, add-moved-back}

-- only the parts of the others matter
pub held-as : (v : Knowing) (xs ys : List Knowing) → map part_of ys ≡ map part_of xs → IsHeld v xs → IsHeld v ys
held-as v xs ys same h = record { whole = subst (λ (ps : List Share). AddUp (v.part ∷ ps)) (sym same) h.whole; all = h.all }

pub keep-as : (v : Knowing) (xs ys : List Knowing) → map part_of ys ≡ map part_of xs → KeepHeld v xs v ys
keep-as v xs ys same rest h =
    held-as v (xs ++ rest) (ys ++ rest) (map-append part_of ys rest ∙ (ap (λ (ps : List Share). ps ++ map part_of rest) same ∙ sym (map-append part_of xs rest))) h

pub keep-same : (v : Knowing) (xs : List Knowing) → KeepHeld v xs v xs
keep-same v xs rest h = h

pub keep-then : (v w x : Knowing) (xs ys zs : List Knowing) → KeepHeld v xs w ys → KeepHeld w ys x zs → KeepHeld v xs x zs
keep-then v w x xs ys zs first second rest h = second rest (first rest h)

three : (xs ys zs : List Knowing) → map part_of ((xs ++ ys) ++ zs) ≡ (map part_of xs ++ map part_of ys) ++ map part_of zs
three xs ys zs = map-append part_of (xs ++ ys) zs ∙ ap (λ (ps : List Share). ps ++ map part_of zs) (map-append part_of xs ys)

three-other : (xs ys zs : List Knowing) → map part_of (ys ++ (xs ++ zs)) ≡ map part_of ys ++ (map part_of xs ++ map part_of zs)
three-other xs ys zs = map-append part_of ys (xs ++ zs) ∙ ap (λ (ps : List Share). map part_of ys ++ ps) (map-append part_of xs zs)

-- the order of the others does not matter
held-moved : (v : Knowing) (xs ys zs : List Knowing) → IsHeld v ((xs ++ ys) ++ zs) → IsHeld v (ys ++ (xs ++ zs))
held-moved v xs ys zs h = record {
  whole = subst (λ (ps : List Share). AddUp (v.part ∷ ps)) (sym (three-other xs ys zs))
      (add-moved v.part (map part_of xs) (map part_of ys) (map part_of zs) (subst (λ (ps : List Share). AddUp (v.part ∷ ps)) (three xs ys zs) h.whole));
  all = h.all;
}

held-back : (v : Knowing) (xs ys zs : List Knowing) → IsHeld v (ys ++ (xs ++ zs)) → IsHeld v ((xs ++ ys) ++ zs)
held-back v xs ys zs h = record {
  whole = subst (λ (ps : List Share). AddUp (v.part ∷ ps)) (sym (three xs ys zs))
      (add-moved-back v.part (map part_of xs) (map part_of ys) (map part_of zs) (subst (λ (ps : List Share). AddUp (v.part ∷ ps)) (three-other xs ys zs) h.whole));
  all = h.all;
}

keep-behind : (v w : Knowing) (xs ys zs : List Knowing) → KeepHeld v xs w ys → KeepHeld v (xs ++ zs) w (ys ++ zs)
keep-behind v w xs ys zs keep rest h =
    subst (IsHeld w) (sym (append_assoc ys zs rest)) (keep (zs ++ rest) (subst (IsHeld v) (append_assoc xs zs rest) h))

keep-front : (v w : Knowing) (zs xs ys : List Knowing) → KeepHeld v xs w ys → KeepHeld v (zs ++ xs) w (zs ++ ys)
keep-front v w zs xs ys keep rest h = held-back w zs ys rest (keep (zs ++ rest) (held-moved v zs xs rest h))

-- one seat changes
pub keep-set : (v w : Knowing) (seats : List Seat) (place : ℕ) (before after : Seat) → slice_get seats place ≡ Some before
    → KeepHeld v (knows_at before) w (knows_at after) → KeepHeld v (flat_map knows_at seats) w (flat_map knows_at (slice_set seats place after))
keep-set v w [] place before after here keep = absurd cc
keep-set v w (seat ∷ seats) zero before after here keep =
    let is : before ≡ seat = cc in
    keep-behind v w (knows_at seat) (knows_at after) (flat_map knows_at seats) (subst (λ (s : Seat). KeepHeld v (knows_at s) w (knows_at after)) is keep)
keep-set v w (seat ∷ seats) (suc place) before after here keep =
    keep-front v w (knows_at seat) (flat_map knows_at seats) (flat_map knows_at (slice_set seats place after)) (keep-set v w seats place before after here keep)

-- the passes of all seats
pub held-set : (v w : Knowing) (seats : List Seat) (place : ℕ) (before after : Seat) → slice_get seats place ≡ Some before
    → KeepHeld v (knows_at before) w (knows_at after) → IsHeld v (flat_map knows_at seats) → IsHeld w (flat_map knows_at (slice_set seats place after))
held-set v w seats place before after here keep h =
    subst (IsHeld w) (append-nil (flat_map knows_at (slice_set seats place after)))
    (keep-set v w seats place before after here keep [] (subst (IsHeld v) (sym (append-nil (flat_map knows_at seats))) h))
