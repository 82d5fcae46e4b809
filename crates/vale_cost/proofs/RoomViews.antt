-- What waits in a port's ring is read off: its id, whether it is a pipe's, and the positions of
-- its transmit ring.
use Rattle.std.proofs.Common.{ℕ, ◌+◌, ◌≤◌, ◌≡◌, Bool, true, false, cond, ◌==◌, nat_eq, List, [], ◌∷◌, map, filter, fold, Option, Some, None, option_map, refl, sym, ◌∙◌, ap, ap₂, arith, inl, inr}
use Rattle.std.specs.Prelude.{find, sum_by}
use Rattle.std.specs.Option.{option_map_or}
use Rattle.std.specs.List.{AllByRecursion as Each, IsDistinct}
use Rattle.std.proofs.lemmas.Bool.{cases_Bool, eqb-true, eqb-false, ne_eqb}
use Rattle.std.proofs.lemmas.List.Sums.{sum_by-cons}
use Rattle.nm_types.specs.declared.id.Side.{Side}
use Rattle.nm_types.specs.declared.id.Side.TheVariants.{Tx, Rx}
use Rattle.nm_types.specs.Names.{is_pipe_name}
use Rattle.nm_types.specs.Positions.{RingState, IsRing}
use Rattle.nm_types.specs.Slots.{Pushed}
use Rattle.nm_types.specs.OwnPorts.{OwnRing, OwnPort, OwnState, port_if, with_ring_on}
use Rattle.nm_types.specs.OwnSyncs.{ring_swapped, port_swapped, after_slot, buffer_on}
use Rattle.vale_own.specs.Side.{IsSound, IsSoundPort, IsTxRingIf, id_of}
use Rattle.vale_cost.specs.Completeness.{Cost, cost_of_ring, waiting_at, waiting}

pub record View : Type 0 where
  pub id : ℕ
  pub pipe : Bool
  pub ring : Option RingState

abbrev pub ring_of : OwnRing → RingState
ring_of r = r.ring

abbrev pub seen : OwnPort → View
seen p = record { id = p.id.0; pipe = is_pipe_name p.name; ring = option_map ring_of p.tx }

abbrev pub views : OwnState → List View
views s = map seen s.ports

abbrev pub weight : Cost → View → ℕ
weight c v = option_map_or (cost_of_ring c v.pipe) v.ring 0

abbrev pub total : Cost → List View → ℕ
total c vs = sum_by (weight c) vs

abbrev pub id_seen : View → ℕ
id_seen v = v.id

abbrev pub IsRingIf : Option RingState → Type 0
IsRingIf None = Unit {0}
IsRingIf (Some ring) = IsRing ring

abbrev pub IsRingAt : View → Type 0
IsRingAt v = IsRingIf v.ring

weight-by : (c : Cost) (pipe : Bool) (tx : Option OwnRing) → option_map_or (λ (r : OwnRing). cost_of_ring c pipe r.ring) tx 0 ≡ option_map_or (cost_of_ring c pipe) (option_map ring_of tx) 0
weight-by c pipe None = refl
weight-by c pipe (Some r) = refl

pub waiting-views : (c : Cost) (s : OwnState) → waiting c s ≡ total c (views s)
waiting-views c s = over s.ports
  where
    over : (ports : List OwnPort) → sum_by (waiting_at c) ports ≡ total c (map seen ports)
    over [] = refl
    over (p ∷ ports) =
        let one = sum_by-cons (waiting_at c) p ports in
        let other = sum_by-cons (weight c) (seen p) (map seen ports) in
        let here = weight-by c (is_pipe_name p.name) p.tx in
        let rest = over ports in
        omega (arith, one, other, here, rest)

-- ---- a change of the ring at an id

abbrev pub with_view : (RingState → RingState) → View → View
with_view g v = record v { ring = option_map g v.ring }

abbrev pub view_if : ℕ → (RingState → RingState) → View → View
view_if id g v = cond (v.id == id) (with_view g v) v

abbrev pub is_view_at : ℕ → View → Bool
is_view_at id v = v.id == id

others-same : (id : ℕ) (g : RingState → RingState) (vs : List View) → Each (λ y. nat_eq id y ≡ false) (map id_seen vs) → map (view_if id g) vs ≡ vs
others-same id g [] apart = refl
others-same id g (v ∷ vs) apart =
    let other : (v.id == id) ≡ false = ne_eqb v.id id (λ e. eqb-false id v.id apart.0 (sym e)) in
    rw other (ap (λ (ws : List View). v ∷ ws) (others-same id g vs apart.1))

module _ (id : ℕ) (g : RingState → RingState) where
  rest-same : (v : View) (vs : List View) → (v.id == id) ≡ true → Each (λ y. nat_eq v.id y ≡ false) (map id_seen vs) → map (view_if id g) vs ≡ vs
  rest-same v vs here apart = others-same id g vs (rw (eqb-true v.id id here) at apart)

  pub total-changed : (c : Cost) (vs : List View) (v : View) → IsDistinct nat_eq (map id_seen vs) → find (is_view_at id) vs ≡ Some v
      → total c (map (view_if id g) vs) + weight c v ≡ total c vs + weight c (with_view g v)
  unfolding IsDistinct
  total-changed c [] v apart found = absurd cc
  total-changed c (w ∷ vs) v apart found =
      let old = sum_by-cons (weight c) w vs in
      elim (cases_Bool (w.id == id)) [
        | inl here ↦ (let is : w ≡ v = (let first : Some w ≡ Some v = rw here at found in cc) in
            let new = sum_by-cons (weight c) (with_view g w) vs in
            let same = ap (λ (ws : List View). total c (with_view g w ∷ ws)) (rest-same w vs here apart.0) in
            let one = ap (weight c) is in
            let two = ap (λ (x : View). weight c (with_view g x)) is in
            rw here (omega (arith, old, new, same, one, two)))
        | inr other ↦ (let rest = total-changed c vs v apart.1 (rw other at found) in
            let new = sum_by-cons (weight c) w (map (view_if id g) vs) in
            rw other (omega (arith, old, new, rest)))
      ]

  -- the ring that is changed is a ring still
  pub rings-changed : (vs : List View) (v : View) → IsDistinct nat_eq (map id_seen vs) → find (is_view_at id) vs ≡ Some v → Each IsRingAt vs → IsRingAt (with_view g v)
      → Each IsRingAt (map (view_if id g) vs)
  unfolding IsDistinct
  rings-changed [] v apart found each new = tt
  rings-changed (w ∷ vs) v apart found each new = elim (cases_Bool (w.id == id)) [
    | inl here ↦ (let is : w ≡ v = (let first : Some w ≡ Some v = rw here at found in cc) in
        let made : IsRingAt (with_view g w) = rw is new in
        rw here (made, rw (rest-same w vs here apart.0) each.1))
    | inr other ↦ rw other (each.0, rings-changed vs v apart.1 (rw other at found) each.1 new)
  ]

  pub each-id : (k : ℕ) (vs : List View) → Each (λ (v : View). v.id ≤ k) vs → Each (λ (v : View). v.id ≤ k) (map (view_if id g) vs)
  each-id k [] all = tt
  each-id k (v ∷ vs) all = (by (v.id == id), each-id k vs all.1)
    where
      by : (b : Bool) → (cond b (with_view g v) v).id ≤ k
      by true = all.0
      by false = all.0

  pub rings-all : ((ring : RingState) → IsRing ring → IsRing (g ring)) → (vs : List View) → Each IsRingAt vs → Each IsRingAt (map (view_if id g) vs)
  rings-all keeps [] all = tt
  rings-all keeps (v ∷ vs) all = (by (v.id == id), rings-all keeps vs all.1)
    where
      with-ring : (ring : Option RingState) → IsRingIf ring → IsRingIf (option_map g ring)
      with-ring None is = tt
      with-ring (Some ring) is = keeps ring is

      by : (b : Bool) → IsRingAt (cond b (with_view g v) v)
      by true = with-ring v.ring all.0
      by false = all.0

  pub ids-changed : (vs : List View) → map id_seen (map (view_if id g) vs) ≡ map id_seen vs
  ids-changed [] = refl
  ids-changed (v ∷ vs) = ap₂ (λ (n : ℕ) (ns : List ℕ). n ∷ ns) (by (v.id == id)) (ids-changed vs)
    where
      by : (b : Bool) → id_seen (cond b (with_view g v) v) ≡ v.id
      by true = refl
      by false = refl

  -- where the change of a ring makes nothing wait
  pub total-less : (c : Cost) → ((pipe : Bool) (ring : RingState) → IsRing ring → cost_of_ring c pipe (g ring) ≤ cost_of_ring c pipe ring)
      → (vs : List View) → Each IsRingAt vs → total c (map (view_if id g) vs) ≤ total c vs
  total-less c less [] rings = omega arith
  total-less c less (v ∷ vs) rings =
      let one = sum_by-cons (weight c) (view_if id g v) (map (view_if id g) vs) in
      let other = sum_by-cons (weight c) v vs in
      let rest = total-less c less vs rings.1 in
      let here : weight c (view_if id g v) ≤ weight c v = by (v.id == id) v.ring refl rings.0 in
      omega (arith, one, other, rest, here)
    where
      with-ring : (pipe : Bool) (ring : Option RingState) → IsRingIf ring → option_map_or (cost_of_ring c pipe) (option_map g ring) 0 ≤ option_map_or (cost_of_ring c pipe) ring 0
      with-ring pipe None is = omega arith
      with-ring pipe (Some ring) is = less pipe ring is

      by : (b : Bool) (ring : Option RingState) → v.ring ≡ ring → IsRingIf v.ring → weight c (cond b (with_view g v) v) ≤ weight c v
      by true ring is sound = with-ring v.pipe v.ring sound
      by false ring is sound = omega arith

-- ---- what changes leave of the views

pub find-seen : (id : ℕ) (ports : List OwnPort) (p : OwnPort) → find (λ (q : OwnPort). q.id.0 == id) ports ≡ Some p → find (is_view_at id) (map seen ports) ≡ Some (seen p)
find-seen id [] p found = absurd cc
find-seen id (q ∷ ports) p found = elim (cases_Bool (q.id.0 == id)) [
  | inl here ↦ (let is : q ≡ p = (let first : Some q ≡ Some p = rw here at found in cc) in rw here (ap (λ (x : OwnPort). Some (seen x)) is))
  | inr other ↦ rw other (find-seen id ports p (rw other at found))
]

pub ids-seen : (ports : List OwnPort) → map id_seen (map seen ports) ≡ map id_of ports
ids-seen [] = refl
ids-seen (p ∷ ports) = ap (λ (ns : List ℕ). p.id.0 ∷ ns) (ids-seen ports)

module _ (id : ℕ) (f : OwnRing → OwnRing) where
  pub seen-tx : (g : RingState → RingState) → ((r : OwnRing) → (f r).ring ≡ g r.ring) → (ports : List OwnPort)
      → map seen (map (port_if id (with_ring_on Tx f)) ports) ≡ map (view_if id g) (map seen ports)
  seen-tx g same [] = refl
  seen-tx g same (p ∷ ports) = ap₂ (λ (v : View) (vs : List View). v ∷ vs) (by (p.id.0 == id)) (seen-tx g same ports)
    where
      rings : (tx : Option OwnRing) → option_map ring_of (option_map f tx) ≡ option_map g (option_map ring_of tx)
      rings None = refl
      rings (Some r) = ap (λ (x : RingState). Some x) (same r)

      by : (b : Bool) → seen (cond b (with_ring_on Tx f p) p) ≡ cond b (with_view g (seen p)) (seen p)
      by true = ap (λ (o : Option RingState). record { id = p.id.0; pipe = is_pipe_name p.name; ring = o }) (rings p.tx)
      by false = refl

  pub seen-rx : (ports : List OwnPort) → map seen (map (port_if id (with_ring_on Rx f)) ports) ≡ map seen ports
  seen-rx [] = refl
  seen-rx (p ∷ ports) = ap₂ (λ (v : View) (vs : List View). v ∷ vs) (by (p.id.0 == id)) (seen-rx ports)
    where
      by : (b : Bool) → seen (cond b (with_ring_on Rx f p) p) ≡ seen p
      by true = refl
      by false = refl

  -- a change that leaves the positions
  pub seen-still : (side : Side) → ((r : OwnRing) → (f r).ring ≡ r.ring) → (ports : List OwnPort)
      → map seen (map (port_if id (with_ring_on side f)) ports) ≡ map seen ports
  seen-still Rx same ports = seen-rx ports
  seen-still Tx same [] = refl
  seen-still Tx same (p ∷ ports) = ap₂ (λ (v : View) (vs : List View). v ∷ vs) (by (p.id.0 == id)) (seen-still Tx same ports)
    where
      rings : (tx : Option OwnRing) → option_map ring_of (option_map f tx) ≡ option_map ring_of tx
      rings None = refl
      rings (Some r) = ap (λ (x : RingState). Some x) (same r)

      by : (b : Bool) → seen (cond b (with_ring_on Tx f p) p) ≡ seen p
      by true = ap (λ (o : Option RingState). record { id = p.id.0; pipe = is_pipe_name p.name; ring = o }) (rings p.tx)
      by false = refl

-- buffers that change places
seen-swapped : (a b : ℕ) (ports : List OwnPort) → map seen (map (port_swapped a b) ports) ≡ map seen ports
seen-swapped a b [] = refl
seen-swapped a b (p ∷ ports) = ap₂ (λ (v : View) (vs : List View). v ∷ vs) here (seen-swapped a b ports)
  where
    rings : (tx : Option OwnRing) → option_map ring_of (option_map (ring_swapped a b) tx) ≡ option_map ring_of tx
    rings None = refl
    rings (Some r) = refl

    here : seen (port_swapped a b p) ≡ seen p
    here = ap (λ (o : Option RingState). record { id = p.id.0; pipe = is_pipe_name p.name; ring = o }) (rings p.tx)

pub seen-exchanged : (side : Side) (id : ℕ) (pushed : List Pushed) (ports : List OwnPort) → map seen (fold (after_slot side id) ports pushed) ≡ map seen ports
seen-exchanged side id [] ports = refl
seen-exchanged side id (x ∷ pushed) ports =
    seen-exchanged side id pushed (after_slot side id ports x) ∙ seen-swapped (buffer_on side id ports x.at) x.slot.buf_idx ports

-- a port that goes takes its frames away
pub total-filter : (c : Cost) (test : OwnPort → Bool) (ports : List OwnPort) → total c (map seen (filter test ports)) ≤ total c (map seen ports)
total-filter c test [] = omega arith
total-filter c test (p ∷ ports) = by (test p) (total-filter c test ports)
  where
    by : (b : Bool) → total c (map seen (filter test ports)) ≤ total c (map seen ports) → total c (map seen (cond b (p ∷ filter test ports) (filter test ports))) ≤ total c (map seen (p ∷ ports))
    by true rest =
        let one = sum_by-cons (weight c) (seen p) (map seen (filter test ports)) in
        let other = sum_by-cons (weight c) (seen p) (map seen ports) in
        omega (arith, rest, one, other)
    by false rest = let other = sum_by-cons (weight c) (seen p) (map seen ports) in omega (arith, rest, other)

-- ports that differ, with rings that are rings

pub record AreTidy (vs : List View) : Type 0 where
  pub apart : IsDistinct nat_eq (map id_seen vs)
  pub rings : Each IsRingAt vs

pub each-seen : (P : View → Type 0) (test : OwnPort → Bool) (ports : List OwnPort) → Each P (map seen ports) → Each P (map seen (filter test ports))
each-seen P test [] all = tt
each-seen P test (p ∷ ports) all = by (test p) (each-seen P test ports all.1)
  where
    by : (b : Bool) → Each P (map seen (filter test ports)) → Each P (map seen (cond b (p ∷ filter test ports) (filter test ports)))
    by true rest = (all.0, rest)
    by false rest = rest

-- tidy, with no id above a number
pub record AreBelow (k : ℕ) (vs : List View) : Type 0 where
  pub tidy : AreTidy vs
  pub ids : Each (λ (v : View). v.id ≤ k) vs

pub below-later : (k n : ℕ) (vs : List View) → k ≤ n → AreBelow k vs → AreBelow n vs
below-later k n vs up below = record { tidy = below.tidy; ids = over vs below.ids }
  where
    over : (ws : List View) → Each (λ (v : View). v.id ≤ k) ws → Each (λ (v : View). v.id ≤ n) ws
    over [] all = tt
    over (w ∷ ws) all = ((let low = all.0 in omega (arith, low, up)), over ws all.1)

pub tidy-of : (s : OwnState) → IsSound s → AreTidy (views s)
tidy-of s sound = record { apart = rw (ids-seen s.ports) sound.apart; rings = over s.ports sound.each }
  where
    ring-is : (tx : Option OwnRing) → IsTxRingIf tx → IsRingIf (option_map ring_of tx)
    ring-is None is = tt
    ring-is (Some r) is = is.positions

    over : (ports : List OwnPort) → Each IsSoundPort ports → Each IsRingAt (map seen ports)
    over [] each = tt
    over (p ∷ ports) each = (ring-is p.tx each.0.tx, over ports each.1)
