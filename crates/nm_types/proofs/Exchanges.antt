-- What an exchange does to places: two buffers change places, and nothing else moves.
use Rattle.std.proofs.Common.{ℕ, true, false, ◌≡◌, ◌≢◌, inl, inr, List, [], ◌∷◌, map, Option, Some, None, option_map, nat_eq, eq-eqb, refl, sym, ◌∙◌, ap, arith}
use Rattle.std.specs.List.{IsDistinct, AllByRecursion}
use Rattle.std.proofs.lemmas.Bool.{cases_Bool}
use Rattle.std.proofs.lemmas.Bool.Decides.{nat_tests}
use Rattle.nm_types.specs.declared.place.Place.{Place}
use Rattle.nm_types.specs.Places.{Held, held_at, is_same_place}
use Rattle.nm_types.specs.Exchange.{swapped, swapped_places, exchanged, Naming, after_push, EachBufferOnce, EachIsHeld, EachNamed}

pub swapped-first : (a b : ℕ) → swapped a b a ≡ b
swapped-first a b = grind (arith, nat_tests)

pub swapped-second : (a b : ℕ) → swapped a b b ≡ a
swapped-second a b = grind (arith, nat_tests)

pub swapped-other : (a b x : ℕ) → x ≢ a → x ≢ b → swapped a b x ≡ x
swapped-other a b x h k = grind (arith, nat_tests)

swapped-swapped : (a b x : ℕ) → swapped a b (swapped a b x) ≡ x
swapped-swapped a b x = grind (arith, nat_tests)

-- a place's buffer once two buffers have changed places
held_at-swapped : (was idx : ℕ) (held : List Held) (place : Place) → held_at (swapped_places was idx held) place ≡ option_map (swapped was idx) (held_at held place)
held_at-swapped was idx [] place = refl
held_at-swapped was idx (h ∷ hs) place = elim (cases_Bool (is_same_place place h.place)) [
  | inl e ↦ rw e refl
  | inr e ↦ rw e (held_at-swapped was idx hs place)
]

-- a place after an exchange, where the exchange's own place holds a buffer
pub held_at-exchanged : (held : List Held) (place : Place) (idx was : ℕ) (other : Place) → held_at held place ≡ Some was
    → held_at (exchanged held place idx) other ≡ option_map (swapped was idx) (held_at held other)
held_at-exchanged held place idx was other e = rw e (held_at-swapped was idx held other)

pub exchanged_here : (held : List Held) (place : Place) (idx was : ℕ) → held_at held place ≡ Some was → held_at (exchanged held place idx) place ≡ Some idx
exchanged_here held place idx was e =
    held_at-exchanged held place idx was place e ∙ (ap (option_map (swapped was idx)) e ∙ ap Some (swapped-first was idx))

pub exchanged_there : (held : List Held) (place other : Place) (idx was : ℕ) → held_at held place ≡ Some was → held_at held other ≡ Some idx → held_at (exchanged held place idx) other ≡ Some was
exchanged_there held place other idx was e there =
    held_at-exchanged held place idx was other e ∙ (ap (option_map (swapped was idx)) there ∙ ap Some (swapped-second was idx))

pub exchanged_stays : (held : List Held) (place other : Place) (idx was b : ℕ) → held_at held place ≡ Some was → held_at held other ≡ Some b → b ≢ was → b ≢ idx → held_at (exchanged held place idx) other ≡ Some b
exchanged_stays held place other idx was b e there h k =
    held_at-exchanged held place idx was other e ∙ (ap (option_map (swapped was idx)) there ∙ ap Some (swapped-other was idx b h k))

-- what stood in a place before, by what stands there now
unswapped : (was idx b : ℕ) (o : Option ℕ) → option_map (swapped was idx) o ≡ Some b → o ≡ Some (swapped was idx b)
unswapped was idx b None e = cc
unswapped was idx b (Some x) e =
    let same : swapped was idx x ≡ b = cc in
    let back : x ≡ swapped was idx b = sym (swapped-swapped was idx x) ∙ ap (swapped was idx) same in
    ap Some back

pub EachBufferOnce-exchanged : (held : List Held) (place : Place) (idx was : ℕ) → held_at held place ≡ Some was → EachBufferOnce held → EachBufferOnce (exchanged held place idx)
EachBufferOnce-exchanged held place idx was e once p q b at_p at_q =
    let before_p = unswapped was idx b (held_at held p) (sym (held_at-exchanged held place idx was p e) ∙ at_p) in
    let before_q = unswapped was idx b (held_at held q) (sym (held_at-exchanged held place idx was q e) ∙ at_q) in
    once p q (swapped was idx b) before_p before_q

EachIsHeld-exchanged : (held : List Held) (place : Place) (idx was : ℕ) (namings : List Naming) → held_at held place ≡ Some was → EachIsHeld held namings → EachIsHeld (exchanged held place idx) namings
EachIsHeld-exchanged held place idx was [] e all = tt
EachIsHeld-exchanged held place idx was (n ∷ ns) e all =
    ((swapped was idx all.0.0, held_at-exchanged held place idx was n.place e ∙ ap (option_map (swapped was idx)) all.0.1), EachIsHeld-exchanged held place idx was ns e all.1)

-- a buffer that no later slot names stays in a place that no later slot is of
push_stays : (namings : List Naming) (held : List Held) (place : Place) (b : ℕ) → EachBufferOnce held → EachIsHeld held namings → held_at held place ≡ Some b
    → AllByRecursion (λ y. is_same_place place y ≡ false) (map (λ (n : Naming). n.place) namings)
    → AllByRecursion (λ y. nat_eq b y ≡ false) (map (λ (n : Naming). n.idx) namings)
    → held_at (after_push held namings) place ≡ Some b
push_stays [] held place b once all here apart other = here
push_stays (n ∷ ns) held place b once all here apart other =
    let was = all.0.0 in
    let at_n : held_at held n.place ≡ Some was = all.0.1 in
    let not_named : b ≢ n.idx = (λ (e : b ≡ n.idx). let same : nat_eq b n.idx ≡ true = eq-eqb b n.idx e in false_true (sym other.0 ∙ same)) in
    let not_moved : b ≢ was = (λ (e : b ≡ was). let there : held_at held n.place ≡ Some b = at_n ∙ ap Some (sym e) in false_true (sym apart.0 ∙ once place n.place b here there)) in
    push_stays ns (exchanged held n.place n.idx) place b
    (EachBufferOnce-exchanged held n.place n.idx was at_n once)
    (EachIsHeld-exchanged held n.place n.idx was ns at_n all.1)
    (exchanged_stays held n.place place n.idx was b at_n here not_moved not_named)
    apart.1 other.1
  where
    false_true : false ≡ true → ⊥
    false_true e = cc

-- each pushed place then holds the buffer that its slot names
pub pushed_hold_names : (namings : List Naming) (held : List Held) → EachBufferOnce held → EachIsHeld held namings
    → IsDistinct is_same_place (map (λ (n : Naming). n.place) namings) → IsDistinct nat_eq (map (λ (n : Naming). n.idx) namings)
    → EachNamed (after_push held namings) namings
unfolding IsDistinct
pushed_hold_names [] held once all places names = tt
pushed_hold_names (n ∷ ns) held once all places names =
    let was = all.0.0 in
    let at_n : held_at held n.place ≡ Some was = all.0.1 in
    let once_after = EachBufferOnce-exchanged held n.place n.idx was at_n once in
    let held_after = EachIsHeld-exchanged held n.place n.idx was ns at_n all.1 in (
      push_stays ns (exchanged held n.place n.idx) n.place n.idx once_after held_after (exchanged_here held n.place n.idx was at_n) places.0 names.0,
      pushed_hold_names ns (exchanged held n.place n.idx) once_after held_after places.1 names.1,
    )
