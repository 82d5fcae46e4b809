-- A push each of whose slots keeps the buffer in its place: no slot of it is refused.
use Rattle.std.proofs.Common.{ℕ, zero, suc, ◌≡◌, ◌<◌, ◌≤◌, ◌+◌, Bool, true, false, nat_eq, List, [], ◌∷◌, ◌++◌, length, map, drop, Option, Some, None, inl, inr, refl, sym, ◌∙◌, ap, subst, arith}
use Rattle.std.specs.Prelude.{◌||◌, unwrap_or}
use Rattle.std.proofs.lemmas.Bool.{cases_Bool}
use Rattle.std.proofs.lemmas.List.{map-append}
use Rattle.nm_types.specs.declared.id.PortId.{PortId}
use Rattle.nm_types.specs.declared.id.Side.{Side}
use Rattle.nm_types.specs.declared.id.Side.TheVariants.{Tx, Rx}
use Rattle.nm_types.specs.Positions.{IsRing, FitsRing, slots_from}
use Rattle.nm_types.specs.Slots.{Pushed, pushed_names}
use Rattle.nm_types.specs.SyncChecks.{is_tx, slots_refusal, is_closing, seen_of, begun_after, contains_index, PassesSlot}
use Rattle.nm_types.proofs.SlotChecks.{slot_refusal-passes}
use Rattle.nm_types.proofs.Tests.{false_true}
use Rattle.nm_hold.specs.Holds.{HoldState, buffers_of, index_at, is_named_at, slot_on, IsHold, AreNumbers}
use Rattle.nm_hold.proofs.Spots.{nat_eq-is}
use Rattle.nm_port.specs.RingSlots.{RingSlots, slot_at}
use Rattle.nm_port.specs.Sides.{place_on, number_at, name_at, pushed_seen_at, AreNamed, HaveNamed, IsPlain}
use Rattle.nm_port.specs.Exchanges.{pushed_count_of, user_position, user_place, KeepAll}
use Rattle.nm_port.proofs.Judging.{judged_next, rest-next, rest-none, contains_more}
use Rattle.nm_port.proofs.Pushes.{pushed_is_user, seen_more}
use Rattle.nm_port.proofs.Plain.{named_within}
use Rattle.nm_port.proofs.Exchanged.{one_place, user_apart}

pub slot_is_place : (side : Side) (id : PortId) (at : ℕ) → slot_on side id at ≡ place_on side id at
slot_is_place Tx id at = refl
slot_is_place Rx id at = refl

pub index_from : (o : Option ℕ) (idx : ℕ) → unwrap_or o 0 ≡ idx → 2 ≤ idx → o ≡ Some idx
index_from None idx e low = let none : 0 ≡ idx = e in absurd (omega (arith, none))
index_from (Some i) idx e low = ap (λ (n : ℕ). Some n) e

module _ (h : HoldState) (id : PortId) (r : RingSlots) (numbers : List ℕ) (is : IsRing r.ring) (fits : FitsRing r.ring r.ring.head r.ring.cur) (numbered : AreNumbers h r.side id numbers)
    (named_there : HaveNamed h id r) (kept : KeepAll r numbers (pushed_count_of r)) where
  abbrev own_name : ℕ → ℕ
  own_name k = name_at r (user_position r k)

  number_there : (k : ℕ) → k < pushed_count_of r → number_at h (user_place id r k) ≡ own_name k
  number_there k below =
      let at = user_position r k in
      ap (number_at h) (sym (slot_is_place r.side id at)) ∙ numbered at (own_name k) (kept k below)

  -- the buffer that a slot names stands in the slot's place, and is a named one
  stands : (k : ℕ) → k < pushed_count_of r → (index_at h (user_place id r k) ≡ Some (own_name k)) × (is_named_at h (own_name k) ≡ true)
  stands k below =
      let x = named_there (user_position r k) (pushed_is_user r.ring k is fits below) in
      let same : x.0 ≡ own_name k = sym (ap (λ (o : Option ℕ). unwrap_or o 0) x.1.0) ∙ number_there k below in
      (x.1.0 ∙ ap (λ (n : ℕ). Some n) same, ap (is_named_at h) (sym same) ∙ x.1.1)

  stands_there : (k : ℕ) → k < pushed_count_of r → index_at h (user_place id r k) ≡ Some (own_name k)
  stands_there k below = (stands k below).0

  abbrev pub seen : ℕ → List Pushed
  seen n = map (pushed_seen_at h id r) (slots_from r.ring.size r.ring.accepted_head n)

  -- a name of one of the first slots is not that of the next one
  named_before : (idx n : ℕ) → contains_index (pushed_names (seen n)) idx ≡ true → (j : ℕ) × (j < n) × (own_name j ≡ idx)
  named_before idx zero e = false_true e
  named_before idx (suc n) e =
      let next : suc n ≡ n + 1 = omega arith in
      let more : pushed_names (seen (n + 1)) ≡ pushed_names (seen n) ++ own_name n ∷ [] =
      ap pushed_names (seen_more (pushed_seen_at h id r) r.ring.size r.ring.accepted_head n) ∙ map-append (λ (p : Pushed). p.slot.buf_idx) (seen n) (pushed_seen_at h id r (user_position r n) ∷ []) in
      let both : (contains_index (pushed_names (seen n)) idx || nat_eq (own_name n) idx) ≡ true =
      sym (contains_more (pushed_names (seen n)) (own_name n) idx) ∙ (sym (ap (λ (names : List ℕ). contains_index names idx) more) ∙ (ap (λ (m : ℕ). contains_index (pushed_names (seen m)) idx) (sym next) ∙ e)) in
      elim (cases_Bool (nat_eq (own_name n) idx)) [
        | inl same ↦ (n, omega arith, nat_eq-is (own_name n) idx same)
        | inr other ↦ (let before = named_before idx n (or_left (contains_index (pushed_names (seen n)) idx) (nat_eq (own_name n) idx) both other) in (before.0, omega (arith, before.1), before.2))
      ]
    where
      or_left : (a b : Bool) → (a || b) ≡ true → b ≡ false → a ≡ true
      or_left true b e f = refl
      or_left false b e f = false_true (sym f ∙ e)

  module _ (is_hold : IsHold h) (plain : is_tx r.side ≡ true → (k : ℕ) → k < pushed_count_of r → IsPlain (slot_at r (user_position r k))) where
    names_apart : (n : ℕ) → n < pushed_count_of r → contains_index (pushed_names (seen n)) (own_name n) ≡ false
    names_apart n below = elim (cases_Bool (contains_index (pushed_names (seen n)) (own_name n))) [
      | inl there ↦ (let before = named_before (own_name n) n there in
          let earlier : index_at h (user_place id r before.0) ≡ Some (own_name n) = stands_there before.0 (omega (arith, before.1)) ∙ ap (λ (m : ℕ). Some m) before.2 in
          absurd (user_apart id r before.0 n is fits before.1 below (one_place h (user_place id r before.0) (user_place id r n) (own_name n) is_hold earlier (stands_there n below))))
      | inr none ↦ none
    ]

    module _ (whole : Bool) (named : List ℕ) (well : AreNamed h named) where
      abbrev all : List Pushed
      all = seen (pushed_count_of r)

      -- what is left of them passes, whatever frame goes on before it: no transmit slot is marked
      kept_from : (left n begun : ℕ) → n + left ≡ pushed_count_of r → slots_refusal r.side whole (buffers_of h) named (pushed_names (seen n)) begun (drop n all) ≡ None
      kept_from zero n begun sum =
          let none = rest-none (pushed_seen_at h id r) r.ring.size r.ring.accepted_head (pushed_count_of r) n (omega (arith, sum)) in
          rw none refl
      kept_from (suc left) n begun sum =
          let below : n < pushed_count_of r = omega (arith, sum) in
          let x = pushed_seen_at h id r (user_position r n) in
          let others = drop (n + 1) all in
          let next : drop n all ≡ x ∷ others = rest-next (pushed_seen_at h id r) r.ring.size r.ring.accepted_head (pushed_count_of r) n below in
          let named_one = (stands n below).1 in
          let index = named_within h (own_name n) is_hold named_one in
          let here : PassesSlot r.side (seen_of (is_closing whole begun (length others)) (buffers_of h) named (pushed_names (seen n)) x) x.slot = record {
            direct = λ tx. (plain tx n below).direct;
            least = index.least;
            most = index.most;
            held = sym (well is_hold (own_name n) index.least) ∙ named_one;
            once = names_apart n below;
            announced = λ differs. absurd (differs (sym (number_there n below)));
            fits_buffer = λ tx. (plain tx n below).fits;
            ends = λ tx closing. (plain tx n below).ends;
          } in
          let passes = slot_refusal-passes r.side (seen_of (is_closing whole begun (length others)) (buffers_of h) named (pushed_names (seen n)) x) x.at x.slot here in
          let names : pushed_names (seen (n + 1)) ≡ pushed_names (seen n) ++ x.slot.buf_idx ∷ [] =
          ap pushed_names (seen_more (pushed_seen_at h id r) r.ring.size r.ring.accepted_head n) ∙ map-append (λ (p : Pushed). p.slot.buf_idx) (seen n) (x ∷ []) in
          let rest = kept_from left (n + 1) (begun_after begun x.slot) (omega (arith, sum)) in
          ap (slots_refusal r.side whole (buffers_of h) named (pushed_names (seen n)) begun) next
          ∙ (judged_next r.side whole (buffers_of h) named (pushed_names (seen n)) begun x others passes
          ∙ (ap (λ (earlier : List ℕ). slots_refusal r.side whole (buffers_of h) named earlier (begun_after begun x.slot) others) (sym names) ∙ rest))

      pub kept_passes : slots_refusal r.side whole (buffers_of h) named [] 0 all ≡ None
      kept_passes = kept_from (pushed_count_of r) 0 0 (omega arith)
