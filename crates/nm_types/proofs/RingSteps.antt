-- Steps round a ring: where they lead, and how they add up.
use Rattle.std.proofs.Common.{ℕ, zero, suc, ◌++◌, ◌≡◌, ◌≤◌, ◌<◌, ◌+◌, ◌-◌, ◌%◌, ◌⊎◌, inl, inr, map, length, drop, refl, sym, ◌∙◌, ap, arith, nat_eq, false}
use Rattle.std.proofs.Math.Nat.{mod-eq_of_lt, add-mod_left, mod-add-mod}
use Rattle.std.proofs.lemmas.Nat.{mod_below}
use Rattle.std.proofs.lemmas.Bool.{cases_lt, cases_Bool, eqb-true}
use Rattle.std.proofs.lemmas.List.{map-append}
use Rattle.std.proofs.Math.Seq.{drop-append_seam}
use Rattle.std.proofs.lemmas.List.FromFn.{length-map-range_with_len}
use Rattle.std.specs.List.{range_with_len, IsDistinct, AllByRecursion}
use Rattle.nm_types.specs.Positions.{dist, step_on, slots_from}

-- a number that goes round once at most
mod_once : (size n : ℕ) → size ≤ n → n < size + size → n % size + size ≡ n
mod_once size n over below =
    let split : n ≡ size + (n - size) = omega arith in
    let less : n - size < size = omega arith in
    let rest : n % size ≡ n - size = ap (λ (x : ℕ). x % size) split ∙ (add-mod_left size (n - size) ∙ mod-eq_of_lt less) in
    added (n % size) n size rest over
  where
    added : (r n size : ℕ) → r ≡ n - size → size ≤ n → r + size ≡ n
    added r n size e h = omega arith

mod-cases : (size n : ℕ) → n < size + size → (n % size ≡ n) ⊎ (n % size + size ≡ n)
mod-cases size n below = elim (cases_lt n size) [ inl less ↦ inl (mod-eq_of_lt less) | inr over ↦ inr (mod_once size n over below) ]

pub dist-below : (size from to : ℕ) → from < size → dist size from to < size
dist-below size from to h = mod_below (to + size - from) size (omega arith)

pub step_on-below : (size at k : ℕ) → at < size → step_on size at k < size
step_on-below size at k h = mod_below (at + k) size (omega arith)

-- a distance is the steps that lead there
pub dist-cases : (size from to : ℕ) → from < size → to < size → (from + dist size from to ≡ to) ⊎ (from + dist size from to ≡ to + size)
dist-cases size from to f t = elim (mod-cases size (to + size - from) (omega arith)) [
  | inl e ↦ inr (far (dist size from to) from to size e f)
  | inr e ↦ inl (near (dist size from to) from to size e f)
]
  where
    far : (d from to size : ℕ) → d ≡ to + size - from → from < size → from + d ≡ to + size
    far d from to size e f = omega arith

    near : (d from to size : ℕ) → d + size ≡ to + size - from → from < size → from + d ≡ to
    near d from to size e f = omega arith

pub step_on-cases : (size at k : ℕ) → at < size → k ≤ size → (step_on size at k ≡ at + k) ⊎ (step_on size at k + size ≡ at + k)
step_on-cases size at k a h = mod-cases size (at + k) (omega arith)

pub dist-step_on : (size at k : ℕ) → at < size → k < size → dist size at (step_on size at k) ≡ k
dist-step_on size at k a h =
    let stepped = step_on-cases size at k a (omega arith) in
    let there = dist-cases size at (step_on size at k) a (step_on-below size at k a) in
    let below = dist-below size at (step_on size at k) a in
    found (dist size at (step_on size at k)) (step_on size at k) size at k below h stepped there
  where
    found : (d s size at k : ℕ) → d < size → k < size → (s ≡ at + k) ⊎ (s + size ≡ at + k) → (at + d ≡ s) ⊎ (at + d ≡ s + size) → d ≡ k
    found d s size at k below h stepped there = grind arith

-- the tail's distance grows by the steps that it takes
pub dist-add : (size from to k : ℕ) → from < size → to < size → dist size from to + k < size → dist size from (step_on size to k) ≡ dist size from to + k
dist-add size from to k f t room =
    let before = dist-cases size from to f t in
    let less = dist-below size from to f in
    let stepped = step_on-cases size to k t (omega arith) in
    let after = dist-cases size from (step_on size to k) f (step_on-below size to k t) in
    let below = dist-below size from (step_on size to k) f in
    found (dist size from (step_on size to k)) (dist size from to) (step_on size to k) size from to k below room before stepped after
  where
    found : (e d s size from to k : ℕ) → e < size → d + k < size → (from + d ≡ to) ⊎ (from + d ≡ to + size) → (s ≡ to + k) ⊎ (s + size ≡ to + k)
        → (from + e ≡ s) ⊎ (from + e ≡ s + size) → e ≡ d + k
    found e d s size from to k below room before stepped after = grind arith

pub step_on-dist : (size from to : ℕ) → from < size → to < size → step_on size from (dist size from to) ≡ to
step_on-dist size from to f t =
    let there = dist-cases size from to f t in
    let less = dist-below size from to f in
    let stepped = step_on-cases size from (dist size from to) f (omega arith) in
    let below = step_on-below size from (dist size from to) f in
    found (step_on size from (dist size from to)) (dist size from to) size from to t below there stepped
  where
    found : (s d size from to : ℕ) → to < size → s < size → (from + d ≡ to) ⊎ (from + d ≡ to + size) → (s ≡ from + d) ⊎ (s + size ≡ from + d) → s ≡ to
    found s d size from to t below there stepped = grind arith

pub step_on-size : (size at : ℕ) → at < size → step_on size at size ≡ at
step_on-size size at a =
    let stepped = step_on-cases size at size a (omega arith) in
    let below = step_on-below size at size a in
    found (step_on size at size) size at a below stepped
  where
    found : (s size at : ℕ) → at < size → s < size → (s ≡ at + size) ⊎ (s + size ≡ at + size) → s ≡ at
    found s size at a below stepped = grind arith

pub step_on-step_on : (size at k more : ℕ) → step_on size (step_on size at k) more ≡ step_on size at (k + more)
step_on-step_on size at k more =
    let sums : at + k + more ≡ at + (k + more) = omega arith in
    mod-add-mod (at + k) size more ∙ ap (λ (x : ℕ). x % size) sums

pub dist_self : (size at : ℕ) → at < size → dist size at at ≡ 0
dist_self size at a =
    let there = dist-cases size at at a a in
    let below = dist-below size at at a in
    found (dist size at at) size at below there
  where
    found : (d size at : ℕ) → d < size → (at + d ≡ at) ⊎ (at + d ≡ at + size) → d ≡ 0
    found d size at below there = grind arith

-- the slots from behind a tail to a head are those that are not between the head and the tail, less one
pub dist_behind : (size head tail : ℕ) → head < size → tail < size → dist size (step_on size tail 1) head ≡ size - 1 - dist size head tail
dist_behind size head tail h t =
    let ahead = dist-cases size head tail h t in
    let less = dist-below size head tail h in
    let stepped = step_on-cases size tail 1 t (omega arith) in
    let small = step_on-below size tail 1 t in
    let there = dist-cases size (step_on size tail 1) head small h in
    let below = dist-below size (step_on size tail 1) head small in
    found (dist size (step_on size tail 1) head) (dist size head tail) (step_on size tail 1) size head tail below less small ahead stepped there
  where
    found : (e d s size head tail : ℕ) → e < size → d < size → s < size → (head + d ≡ tail) ⊎ (head + d ≡ tail + size) → (s ≡ tail + 1) ⊎ (s + size ≡ tail + 1)
        → (s + e ≡ head) ⊎ (s + e ≡ head + size) → e ≡ size - 1 - d
    found e d s size head tail below less small ahead stepped there = grind arith

-- where a slot stands, seen from three positions
pub seen_from : (size a h x : ℕ) → a < size → h < size → x < size → (dist size h x + dist size a h ≡ dist size a x) ⊎ (dist size h x + dist size a h ≡ dist size a x + size)
seen_from size a h x al hl xl =
    let near = dist-cases size a h al hl in
    let far = dist-cases size a x al xl in
    let rest = dist-cases size h x hl xl in
    let near_less = dist-below size a h al in
    let far_less = dist-below size a x al in
    let rest_less = dist-below size h x hl in
    met (dist size a h) (dist size h x) (dist size a x) size a h x hl xl near_less rest_less far_less near rest far
  where
    met : (d e f size a h x : ℕ) → h < size → x < size → d < size → e < size → f < size → (a + d ≡ h) ⊎ (a + d ≡ h + size) → (h + e ≡ x) ⊎ (h + e ≡ x + size)
        → (a + f ≡ x) ⊎ (a + f ≡ x + size) → (e + d ≡ f) ⊎ (e + d ≡ f + size)
    met d e f size a h x hs xs dl el fl near rest far = elim (cases_lt f d) [
      | inl below ↦ inr (grind arith)
      | inr above ↦ inl (grind arith)
    ]

-- steps from an accepted head to a head within its reach, and from there to the tail
pub dist_split : (size accepted head tail : ℕ) → accepted < size → head < size → tail < size
    → dist size accepted head ≤ dist size accepted tail → dist size accepted head + dist size head tail ≡ dist size accepted tail
dist_split size accepted head tail a h t reach =
    let seen = seen_from size accepted head tail a h t in
    let rest_less = dist-below size head tail h in
    found (dist size accepted head) (dist size head tail) (dist size accepted tail) size rest_less reach seen
  where
    found : (d e f size : ℕ) → e < size → d ≤ f → (e + d ≡ f) ⊎ (e + d ≡ f + size) → d + e ≡ f
    found d e f size less reach seen = grind arith

-- slots of a ring, cut in two
slots_shift : (size at k start count : ℕ) → map (step_on size at) (range_with_len (k + start) count) ≡ map (step_on size (step_on size at k)) (range_with_len start count)
slots_shift size at k start zero = refl
slots_shift size at k start (suc count) =
    let first = step_on-step_on size at k start in
    let sums : k + start + 1 ≡ k + (start + 1) = omega arith in
    let rest = slots_shift size at k (start + 1) count in
    rw (sums, rest, first) refl

range-append : (start a b : ℕ) → range_with_len start (a + b) ≡ range_with_len start a ++ range_with_len (start + a) b
range-append start zero b = let none : 0 + b ≡ b = omega arith in let same : start + 0 ≡ start = omega arith in rw (none, same) refl
range-append start (suc a) b =
    let sums : suc a + b ≡ suc (a + b) = omega arith in
    let shifted : start + suc a ≡ start + 1 + a = omega arith in
    let rest = range-append (start + 1) a b in
    rw (sums, shifted, rest) refl

pub slots_from-add : (size at a b : ℕ) → slots_from size at (a + b) ≡ slots_from size at a ++ slots_from size (step_on size at a) b
slots_from-add size at a b =
    let cut : range_with_len 0 (a + b) ≡ range_with_len 0 a ++ range_with_len a b = range-append 0 a b ∙ (let same : 0 + a ≡ a = omega arith in rw same refl) in
    let both : slots_from size at (a + b) ≡ map (step_on size at) (range_with_len 0 a) ++ map (step_on size at) (range_with_len a b) = rw (cut, map-append) refl in
    let same : a + 0 ≡ a = omega arith in
    let shifted : map (step_on size at) (range_with_len (a + 0) b) ≡ slots_from size (step_on size at a) b = slots_shift size at a 0 b in
    let moved : map (step_on size at) (range_with_len a b) ≡ slots_from size (step_on size at a) b = rw same at shifted in
    cc

pub length-slots_from : (size at count : ℕ) → length (slots_from size at count) ≡ count
length-slots_from size at count = length-map-range_with_len (step_on size at) 0 count

pub drop-slots_from : (size at k count : ℕ) → k ≤ count → drop k (slots_from size at count) ≡ slots_from size (step_on size at k) (count - k)
drop-slots_from size at k count h =
    let sums : count ≡ k + (count - k) = omega arith in
    let cut = slots_from-add size at k (count - k) in
    let front = length-slots_from size at k in
    let seam : drop (length (slots_from size at k)) (slots_from size at k ++ slots_from size (step_on size at k) (count - k)) ≡ slots_from size (step_on size at k) (count - k) = drop-append_seam (slots_from size at k) (slots_from size (step_on size at k) (count - k)) in
    let whole : slots_from size at count ≡ slots_from size at (k + (count - k)) = ap (slots_from size at) sums in
    cc

-- the slots from 0 on, of a ring that has them all
pub slots_from-fresh : (size count : ℕ) → count ≤ size → slots_from size 0 count ≡ range_with_len 0 count
slots_from-fresh size count h = from_fresh size 0 count (omega arith)
  where
    from_fresh : (size start count : ℕ) → start + count ≤ size → map (step_on size 0) (range_with_len start count) ≡ range_with_len start count
    from_fresh size start zero h = refl
    from_fresh size start (suc count) h =
        let first : (0 + start) % size ≡ 0 + start = mod-eq_of_lt (omega arith) in
        let same : 0 + start ≡ start = omega arith in
        let rest = from_fresh size (start + 1) count (omega arith) in
        cc

-- slots that are reached by different steps are different
slots_apart : (size at i j : ℕ) → at < size → i < j → j < size → nat_eq (step_on size at i) (step_on size at j) ≡ false
slots_apart size at i j a less below = elim (cases_Bool (nat_eq (step_on size at i) (step_on size at j))) [
  | inl e ↦
      let same : step_on size at i ≡ step_on size at j = eqb-true (step_on size at i) (step_on size at j) e in
      let first = dist-step_on size at i a (omega arith) in
      let second = dist-step_on size at j a below in
      let both : dist size at (step_on size at i) ≡ dist size at (step_on size at j) = ap (dist size at) same in
      let one : i ≡ j = sym first ∙ (both ∙ second) in
      absurd (omega arith)
  | inr e ↦ e
]

slots_all_apart : (size at i start count : ℕ) → at < size → i < start → start + count ≤ size
    → AllByRecursion (λ y. nat_eq (step_on size at i) y ≡ false) (map (step_on size at) (range_with_len start count))
slots_all_apart size at i start zero a less room = tt
slots_all_apart size at i start (suc count) a less room =
    (slots_apart size at i start a less (omega arith), slots_all_apart size at i (start + 1) count a (omega arith) (omega arith))

slots_distinct_from : (size at start count : ℕ) → at < size → start + count ≤ size → IsDistinct nat_eq (map (step_on size at) (range_with_len start count))
unfolding IsDistinct
slots_distinct_from size at start zero a room = tt
slots_distinct_from size at start (suc count) a room =
    (slots_all_apart size at start (start + 1) count a (omega arith) (omega arith), slots_distinct_from size at (start + 1) count a (omega arith))

pub slots_from-distinct : (size at count : ℕ) → at < size → count ≤ size → IsDistinct nat_eq (slots_from size at count)
slots_from-distinct size at count a room = slots_distinct_from size at 0 count a (omega arith)
