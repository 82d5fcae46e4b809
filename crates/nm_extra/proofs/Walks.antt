-- A walk along a chain, one buffer on and at its end.
use Rattle.std.proofs.Common.{ℕ, zero, suc, ◌≡◌, ◌≢◌, ◌+◌, ◌-◌, ◌<◌, ◌≤◌, Bool, true, false, not, nat_eq, List, [], ◌∷◌, ◌++◌, length, slice_set, get_or, Some, None, inl, inr, refl, sym, ◌∙◌, ap, arith}
use Rattle.std.specs.Prelude.{◌||◌}
use Rattle.std.proofs.lemmas.Bool.{cases_Bool}
use Rattle.std.proofs.Math.Bool.{or-true, or-false}
use Rattle.std.proofs.lemmas.Bool.Decides.{nat_tests}
use Rattle.std.proofs.lemmas.List.{length_push, get_or-set_same, get_or-set_other}
use Rattle.nm_types.specs.declared.id.PortId.{PortId}
use Rattle.nm_types.specs.declared.id.Chain.{Chain}
use Rattle.nm_types.specs.Chain.{seen_in_chain, found_in_chain, chain_of}
use Rattle.nm_types.specs.SyncChecks.{contains_index}
use Rattle.nm_hold.specs.Holds.{HoldState, index_at, IsHold}
use Rattle.nm_types.specs.declared.place.Place.TheVariants.{Extra}
use Rattle.nm_hold.proofs.Spots.{nat_eq-is}
use Rattle.nm_extra.specs.Extras.{extras_of, link_at, position_at}
use Rattle.nm_extra.proofs.Found.{position-some, position-none}

-- how far a walk has come: the buffers that it met, and which positions are theirs
pub record Walked (h : HoldState) (port : PortId) (head : ℕ) (extras found at : ℕ) (met : List Bool) : Type 0 where
  pub seen : List ℕ
  pub rest : seen_in_chain (extras - found) (extras_of h port) (link_at h) seen at ≡ seen_in_chain extras (extras_of h port) (link_at h) [] head
  pub count : length seen ≡ found
  pub within : found ≤ extras
  pub marks : (idx k : ℕ) → position_at h port idx ≡ Some k → get_or met k false ≡ contains_index seen idx

contains-push : (seen : List ℕ) (x idx : ℕ) → contains_index (seen ++ x ∷ []) idx ≡ (contains_index seen idx || nat_eq x idx)
contains-push [] x idx = or-false (nat_eq x idx)
contains-push (y ∷ seen) x idx = either (nat_eq y idx) (contains-push seen x idx)
  where
    either : (b : Bool) → contains_index (seen ++ x ∷ []) idx ≡ (contains_index seen idx || nat_eq x idx) → (b || contains_index (seen ++ x ∷ []) idx) ≡ ((b || contains_index seen idx) || nat_eq x idx)
    either true e = refl
    either false e = e

pub walk_starts : (h : HoldState) (port : PortId) (head extras : ℕ) (met : List Bool) → ((k : ℕ) → get_or met k false ≡ false) → Walked h port head extras 0 head met
walk_starts h port head extras met none = let all : extras - 0 ≡ extras = omega arith in record { seen = []; rest = ap (λ (n : ℕ). seen_in_chain n (extras_of h port) (link_at h) [] head) all; count = refl; within = omega arith; marks = λ idx k e. none k }

goes_on : (extras : List ℕ) (link : ℕ → ℕ) (turns at : ℕ) (seen : List ℕ) → nat_eq at 0 ≡ false → contains_index extras at ≡ true → contains_index seen at ≡ false
    → seen_in_chain (suc turns) extras link seen at ≡ seen_in_chain turns extras link (seen ++ at ∷ []) (link at)
goes_on extras link turns at seen a b c = rw (a, b, c) refl

stops : (extras : List ℕ) (link : ℕ → ℕ) (turns at : ℕ) (seen : List ℕ) → (not (contains_index extras at) || contains_index seen at) ≡ true → seen_in_chain turns extras link seen at ≡ seen
stops extras link zero at seen e = refl
stops extras link (suc turns) at seen e = by_zero (nat_eq at 0) refl
  where
    by_zero : (b : Bool) → nat_eq at 0 ≡ b → seen_in_chain (suc turns) extras link seen at ≡ seen
    by_zero true f = rw f refl
    by_zero false f = rw (f, e) refl

pub walk_goes : (h : HoldState) (port : PortId) (head extras found at here : ℕ) (met : List Bool) → IsHold h → Walked h port head extras found at met → found < extras → position_at h port at ≡ Some here
    → get_or met here false ≡ false → here < length met → Walked h port head extras (found + 1) (link_at h at) (slice_set met here true)
walk_goes h port head extras found at here met hold w more there unmet within =
    let stands = position-some h port at here hold there in
    let unseen : contains_index w.seen at ≡ false = sym (w.marks at here there) ∙ unmet in
    let zero_not : nat_eq at 0 ≡ false = grind (arith, nat_tests, stands.low) in
    let turns : extras - found ≡ suc (extras - (found + 1)) = omega arith in
    let step = goes_on (extras_of h port) (link_at h) (extras - (found + 1)) at w.seen zero_not stands.listed unseen in
    record {
      seen = w.seen ++ at ∷ [];
      rest = sym step ∙ (ap (λ (n : ℕ). seen_in_chain n (extras_of h port) (link_at h) w.seen at) (sym turns) ∙ w.rest);
      count = length_push w.seen at ∙ ap (λ (n : ℕ). n + 1) w.count;
      within = omega arith;
      marks = λ idx k e. elim (cases_Bool (nat_eq k here)) [
        | inl same ↦ (let k_is : k ≡ here = nat_eq-is k here same in
            let other = position-some h port idx k hold e in
            let one : at ≡ idx = some_is at idx (sym stands.there ∙ (ap (λ (n : ℕ). index_at h (Extra port n)) (sym k_is) ∙ other.there)) in
            let eq : nat_eq at idx ≡ true = grind (arith, nat_tests) in
            rw (k_is, get_or-set_same met here true false within, contains-push w.seen at idx, eq) (sym (or-true (contains_index w.seen idx))))
        | inr differs ↦ (let apart : k ≢ here = apart_from k here differs in
            let other = position-some h port idx k hold e in
            let eq : nat_eq at idx ≡ false = differ at idx k here there e apart in
            rw (get_or-set_other met here k true false apart, contains-push w.seen at idx, eq) (w.marks idx k e ∙ sym (or-false (contains_index w.seen idx))))
      ];
    }
  where
    some_is : (a b : ℕ) → Some a ≡ Some b → a ≡ b
    some_is a b e = cc

    true_false : {X : Type 0} → true ≡ false → X
    true_false e = cc

    apart_from : (i j : ℕ) → nat_eq i j ≡ false → i ≢ j
    apart_from i j e f = let same : nat_eq i j ≡ true = grind (arith, nat_tests) in true_false (sym same ∙ e)

    differ : (a b k j : ℕ) → position_at h port a ≡ Some j → position_at h port b ≡ Some k → k ≢ j → nat_eq a b ≡ false
    differ a b k j e f apart = elim (cases_Bool (nat_eq a b)) [
      | inl same ↦ absurd (apart (some_is k j (sym f ∙ (ap (position_at h port) (sym (nat_eq-is a b same)) ∙ e))))
      | inr differs ↦ differs
    ]

ended : (h : HoldState) (port : PortId) (head extras found at : ℕ) (met : List Bool) → (w : Walked h port head extras found at met) → extras ≡ length (extras_of h port)
    → seen_in_chain (extras - found) (extras_of h port) (link_at h) w.seen at ≡ w.seen → found ≡ found_in_chain (extras_of h port) (link_at h) head
ended h port head extras found at met w all end =
    sym w.count ∙ (ap length (sym end ∙ w.rest) ∙ ap (λ (n : ℕ). length (seen_in_chain n (extras_of h port) (link_at h) [] head)) all)

chain_is : (h : HoldState) (port : PortId) (head extras found : ℕ) → extras ≡ length (extras_of h port) → found ≡ found_in_chain (extras_of h port) (link_at h) head
    → (record { found = found; astray = extras - found }) ≡ chain_of (extras_of h port) (link_at h) head
chain_is h port head extras found all e =
    ap (λ (n : ℕ). let c : Chain = record { found = n; astray = extras - n } in c) e ∙ ap (λ (n : ℕ). let c : Chain = record { found = found_in_chain (extras_of h port) (link_at h) head; astray = n - found_in_chain (extras_of h port) (link_at h) head } in c) all

-- the walk ends where no buffer is left to meet, at one that is none of the port's, or at one that was met
pub walk_leaves : (h : HoldState) (port : PortId) (head extras found at : ℕ) (met : List Bool) → IsHold h → Walked h port head extras found at met → extras ≡ length (extras_of h port) → position_at h port at ≡ None
    → (record { found = found; astray = extras - found }) ≡ chain_of (extras_of h port) (link_at h) head
walk_leaves h port head extras found at met hold w all none =
    let out : (not (contains_index (extras_of h port) at) || contains_index w.seen at) ≡ true = rw (position-none h port at hold none) refl in
    chain_is h port head extras found all (ended h port head extras found at met w all (stops (extras_of h port) (link_at h) (extras - found) at w.seen out))

pub walk_meets : (h : HoldState) (port : PortId) (head extras found at here : ℕ) (met : List Bool) → Walked h port head extras found at met → extras ≡ length (extras_of h port) → position_at h port at ≡ Some here
    → get_or met here false ≡ true → (record { found = found; astray = extras - found }) ≡ chain_of (extras_of h port) (link_at h) head
walk_meets h port head extras found at here met w all there seen =
    let again : contains_index w.seen at ≡ true = sym (w.marks at here there) ∙ seen in
    let out : (not (contains_index (extras_of h port) at) || contains_index w.seen at) ≡ true = rw again (or-true (not (contains_index (extras_of h port) at))) in
    chain_is h port head extras found all (ended h port head extras found at met w all (stops (extras_of h port) (link_at h) (extras - found) at w.seen out))
