-- What holds of each seat, as one after another changes.
use Rattle.std.proofs.Common.{◌≡◌, ℕ, zero, suc, ◌+◌, ◌<◌, ◌≤◌, ◌⊎◌, inl, inr, List, [], ◌∷◌, length, slice_get, slice_set, Option, Some, refl, sym, ap, ◌∙◌, subst, arith}
use Rattle.std.proofs.lemmas.Bool.{cases_lt}
use Rattle.std.proofs.lemmas.Option.{slice_get_within}
use mathlib.Core.List.{IsPrefix}
use Rattle.std.specs.Prelude.{flat_map}
use Rattle.nm_turn.proofs.Prefixes.{prefix_trans}
use Rattle.nm_types.specs.declared.fault.StepFault.{StepFault}
use Rattle.vale_entry.specs.declared.entry.Entry.{Entry}
use Rattle.vale_fabric.specs.declared.fabric.Fabric.{Fabric}
use Rattle.vale_fabric.specs.Fabrics.{Knowing}
use Rattle.vale_player.specs.Players.{PlayerState}
use Rattle.vale_act.specs.Seats.{AllAre, AllOn, AreEach, IsHeld, HasMet, HasSaid, HasTold, Meets, MeetAll, Tells, TellAll}
use Rattle.vale_act.specs.Units.{IsOn, knows_at}
use Rattle.vale_act.specs.declared.seat.Seat.{Seat}
use Rattle.vale_act.specs.declared.seat.Seat.TheVariants.{Away, There, Gone}
use Rattle.vale_act.proofs.Held.{held-set}

module _ {X : Type 0} where
  pub some-is : (x y : X) → Some x ≡ Some y → x ≡ y
  some-is x y e = cc

  -- what stands in a list of which one element was changed
  pub get-set : (xs : List X) (i : ℕ) (a : X) (k : ℕ) (x : X) → slice_get (slice_set xs i a) k ≡ Some x → ((k ≡ i) × (x ≡ a)) ⊎ ((¬ (k ≡ i)) × (slice_get xs k ≡ Some x))
  get-set [] i a k x at = absurd cc
  get-set (y ∷ ys) zero a zero x at = inl (refl, cc at)
  get-set (y ∷ ys) zero a (suc k) x at = inr ((λ e. omega (arith, e)), at)
  get-set (y ∷ ys) (suc i) a zero x at = inr ((λ e. omega (arith, e)), at)
  get-set (y ∷ ys) (suc i) a (suc k) x at = by (get-set ys i a k x at)
    where
      by : ((k ≡ i) × (x ≡ a)) ⊎ ((¬ (k ≡ i)) × (slice_get ys k ≡ Some x)) → ((suc k ≡ suc i) × (x ≡ a)) ⊎ ((¬ (suc k ≡ suc i)) × (slice_get ys k ≡ Some x))
      by (inl same) = inl (ap suc same.0, same.1)
      by (inr other) = inr ((λ e. other.0 (omega (arith, e))), other.1)

  pub get-else : (xs : List X) (i : ℕ) (a : X) (k : ℕ) → ¬ (k ≡ i) → slice_get (slice_set xs i a) k ≡ slice_get xs k
  get-else [] i a k apart = refl
  get-else (y ∷ ys) zero a zero apart = absurd (apart refl)
  get-else (y ∷ ys) zero a (suc k) apart = refl
  get-else (y ∷ ys) (suc i) a zero apart = refl
  get-else (y ∷ ys) (suc i) a (suc k) apart = get-else ys i a k (λ e. apart (ap suc e))

  pub length-as : (xs : List X) (i : ℕ) (a : X) → length (slice_set xs i a) ≡ length xs
  length-as [] i a = refl
  length-as (y ∷ ys) zero a = refl
  length-as (y ∷ ys) (suc i) a = ap suc (length-as ys i a)

-- one seat changes, and keeps what holds of all
pub all-set : (P : ℕ → Seat → Type 0) (seats : List Seat) (place : ℕ) (after : Seat) → AllAre P seats → P place after → AllAre P (slice_set seats place after)
all-set P seats place after all new k seat at = by (get-set seats place after k seat at)
  where
    by : ((k ≡ place) × (seat ≡ after)) ⊎ ((¬ (k ≡ place)) × (slice_get seats k ≡ Some seat)) → P k seat
    by (inl here) = subst (λ (n : ℕ). P n seat) (sym here.0) (subst (P place) (sym here.1) new)
    by (inr other) = all k seat other.1

-- seats of which those before this place have changed so, and the others not
pub record Changing (R : Seat → Seat → Type 0) (start now : List Seat) (place : ℕ) : Type 0 where
  pub len : length now ≡ length start
  pub done : (k : ℕ) (before after : Seat) → k < place → slice_get start k ≡ Some before → slice_get now k ≡ Some after → R before after
  pub left : (k : ℕ) → place ≤ k → slice_get now k ≡ slice_get start k

pub changing-none : (R : Seat → Seat → Type 0) (start : List Seat) → Changing R start start 0
changing-none R start = record { len = refl; done = λ k before after low one two. absurd (omega (arith, low)); left = λ k low. refl }

pub changing-set : (R S : Seat → Seat → Type 0) (start now : List Seat) (place : ℕ) (before after : Seat) → ((b a : Seat) → R b a → S b a) → slice_get now place ≡ Some before → S before after
    → Changing R start now place → Changing S start (slice_set now place after) (place + 1)
changing-set R S start now place before after more here new changing = record {
  len = length-as now place after ∙ changing.len;
  done = λ k b a low one two. by k b a low one (get-set now place after k a two);
  left = λ k low. get-else now place after k (λ e. omega (arith, e, low)) ∙ changing.left k (omega (arith, low));
}
  where
    by : (k : ℕ) (b a : Seat) → k < place + 1 → slice_get start k ≡ Some b → ((k ≡ place) × (a ≡ after)) ⊎ ((¬ (k ≡ place)) × (slice_get now k ≡ Some a)) → S b a
    by k b a low one (inl at) =
        let was : Some before ≡ Some b = sym here ∙ (changing.left place (omega arith) ∙ (ap (slice_get start) (sym at.0) ∙ one)) in
        subst (λ (x : Seat). S x a) (some-is before b was) (subst (S before) (sym at.1) new)
    by k b a low one (inr other) = let apart = other.0 in more b a (changing.done k b a (omega (arith, low, apart)) one other.1)

pub changed-all : (R : Seat → Seat → Type 0) (start now : List Seat) (place : ℕ) → length now ≤ place → Changing R start now place → AreEach (λ k. R) start now
changed-all R start now place high changing = record {
  len = changing.len;
  each = λ k before after one two. let within = slice_get_within now k after two in changing.done k before after (omega (arith, high, within)) one two;
}

-- all learn of what the main pass has seen
pub record Meeting (fabric : Fabric) (v w : Knowing) (start now : List Seat) (place : ℕ) : Type 0 where
  pub on : AllOn fabric now
  pub seen : w.seen ≡ v.seen
  pub mine : w.mine ≡ v.mine
  pub held : IsHeld v (flat_map knows_at start) → IsHeld w (flat_map knows_at now)
  pub changing : Changing (HasMet v) start now place

met-as : (u v : Knowing) (before after : Seat) → u.seen ≡ v.seen → HasMet u before after → HasMet v before after
met-as u v (There p fault) after same met =
    let q = met.0 in
    let news = met.1.1.news in
    (q, (met.1.0, record { same = met.1.1.same; mine = met.1.1.mine; seen = met.1.1.seen; news = subst (λ (l : List Entry). IsPrefix l q.session.knows.seen) same news; there = met.1.1.there }))
met-as u v Away after same met = met
met-as u v (Gone saves) after same met = met

pub meeting-set : (fabric : Fabric) (v u w : Knowing) (start now : List Seat) (place : ℕ) (before after : Seat) → slice_get now place ≡ Some before
    → Meeting fabric v u start now place → IsOn fabric after → Meets u w before after → Meeting fabric v w start (slice_set now place after) (place + 1)
meeting-set fabric v u w start now place before after here so on meets = record {
  on = all-set (λ k. IsOn fabric) now place after so.on on;
  seen = meets.seen ∙ so.seen;
  mine = meets.mine ∙ so.mine;
  held = λ h. held-set u w now place before after here meets.held (so.held h);
  changing = changing-set (HasMet v) (HasMet v) start now place before after (λ b a r. r) here (met-as u v before after so.seen meets.seat) so.changing;
}

pub meeting-all : (fabric : Fabric) (v w : Knowing) (start now : List Seat) (place : ℕ) → length now ≤ place → Meeting fabric v w start now place → MeetAll v w start now
meeting-all fabric v w start now place high so = record { seen = so.seen; mine = so.mine; seats = changed-all (HasMet v) start now place high so.changing; held = so.held }

-- the main pass learns of what all have seen
pub record Telling (fabric : Fabric) (v w : Knowing) (start now : List Seat) (place : ℕ) : Type 0 where
  pub on : AllOn fabric now
  pub begins : IsPrefix v.seen w.seen
  pub mine : w.mine ≡ v.mine
  pub held : IsHeld v (flat_map knows_at start) → IsHeld w (flat_map knows_at now)
  pub changing : Changing (HasTold w) start now place

told-more : (u v : Knowing) → IsPrefix u.seen v.seen → (before after : Seat) → HasTold u before after → HasTold v before after
told-more u v more (There p fault) after told =
    (told.0, (told.1.0, record { same = told.1.1.same; seen = prefix_trans p.session.knows.seen u.seen v.seen told.1.1.seen more; there = told.1.1.there }))
told-more u v more Away after told = told
told-more u v more (Gone saves) after told = told

pub telling-set : (fabric : Fabric) (v u w : Knowing) (start now : List Seat) (place : ℕ) (before after : Seat) → slice_get now place ≡ Some before
    → Telling fabric v u start now place → IsOn fabric after → Tells u w before after → Telling fabric v w start (slice_set now place after) (place + 1)
telling-set fabric v u w start now place before after here so on tells = record {
  on = all-set (λ k. IsOn fabric) now place after so.on on;
  begins = prefix_trans v.seen u.seen w.seen so.begins tells.begins;
  mine = tells.mine ∙ so.mine;
  held = λ h. held-set u w now place before after here tells.held (so.held h);
  changing = changing-set (HasTold u) (HasTold w) start now place before after (told-more u w tells.begins) here tells.seat so.changing;
}

pub telling-all : (fabric : Fabric) (v w : Knowing) (start now : List Seat) (place : ℕ) → length now ≤ place → Telling fabric v w start now place → TellAll v w start now
telling-all fabric v w start now place high so = record { begins = so.begins; mine = so.mine; seats = changed-all (HasTold w) start now place high so.changing; held = so.held }
