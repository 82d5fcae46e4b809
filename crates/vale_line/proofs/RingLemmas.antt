-- Runs of a ring's cells, one behind the other.
use Rattle.std.proofs.Common.{ℕ, zero, suc, true, false, ◌≡◌, ◌+◌, ◌-◌, ◌<◌, ◌≤◌, List, [], ◌∷◌, ◌++◌, length, take, drop, map, Option, Some, None, Vec, Global, inl, inr, get_or, slice_set, refl, sym, ◌∙◌, ap, subst, arith}
use Rattle.std.specs.Prelude.{All, nat_lt, IfSome, slice_get, is_some, option_map}
use Rattle.std.specs.List.{list_any}
use Rattle.std.specs.Option.{option_map_or}
use Rattle.std.specs.VecDeque.{deque_capacity}
use Rattle.std.specs.declared.collections.VecDeque.{VecDeque}
use Rattle.std.proofs.lemmas.Bool.{cases_Bool, ltb-true, ltb-false, lt-ltb, le-ltb, or_from}
use Rattle.std.proofs.lemmas.List.{length-append, length-map, map-append, take-append-drop, length-drop, length-take-le, append_assoc}
use Rattle.std.proofs.lemmas.List.Sums.{sum_by-cons}
use Rattle.std.proofs.lemmas.List.Elements.{All-nil, All-push, All-cons, All-head, All-tail}
use Rattle.nm_types.specs.Limits.{most_ring}
use denote.RawPtr.{Ptr}
use Rattle.nm_region.specs.Buffers.{Buffer}
use Rattle.nm_reach.specs.Fields.{Run, FieldState, Meet, round, end_of}
use Rattle.vale_lease.specs.Leases.{AreLeases}
use Rattle.vale_line.specs.declared.got.Got.{Got}
use Rattle.vale_line.specs.declared.lot.Lot.{Lot}
use Rattle.vale_line.specs.declared.ring.Ring.{Ring}
use Rattle.vale_line.specs.Cells.{gots_in, AreFull, AreEmpty, SameCells}
use Rattle.vale_line.specs.Gots.{blank, buffers_of, buffer_of}
use Rattle.vale_line.specs.Lines.{HeldLot, IsLine, slots_of, completed, leases_of, is_out_at, slots_out, first_gots, gots_of_first}
use Rattle.vale_line.specs.Rings.{held, held_lots, items_of, IsHeld, IsAt, Chain, ring_state, IsRing}
use Rattle.vale_line.proofs.CellLemmas.{gots-append, gots-most, full-parts, full-both, empty-both, empty-parts}
use Rattle.vale_line.proofs.LotLemmas.{few-lots, none-of-out, slots_of-push, slots-at, set-completed-lot}
use Rattle.vale_line.proofs.Moving.{buffers-blank}

abbrev Cells : Type 0
Cells = List (Option Got)

-- round a ring
pub round-low : (n a k : ℕ) → a + k < n → round n a k ≡ a + k
round-low n a k h = rw (lt-ltb (a + k) n h) refl

pub round-high : (n a k : ℕ) → n ≤ a + k → round n a k ≡ a + k - n
round-high n a k h = rw (le-ltb (a + k) n h) refl

pub round-within : (n a k : ℕ) → a < n → k ≤ n → round n a k < n
round-within n a k w h = elim (cases_Bool (nat_lt (a + k) n)) [
  | inl here ↦ (let low = ltb-true (a + k) n here in let e = round-low n a k low in omega (arith, e, low))
  | inr other ↦ (let high = ltb-false (a + k) n other in let e = round-high n a k high in omega (arith, e, high, w, h))
]

pub round-round : (n a j k : ℕ) → a < n → j + k ≤ n → round n (round n a j) k ≡ round n a (j + k)
round-round n a j k w h = elim (cases_Bool (nat_lt (a + j) n)) [
  | inl here ↦
      let low = ltb-true (a + j) n here in
      let first = round-low n a j low in
      elim (cases_Bool (nat_lt (a + (j + k)) n)) [
        | inl near ↦
            let below = ltb-true (a + (j + k)) n near in
            let one = round-low n (a + j) k (omega (arith, below)) in
            let all = round-low n a (j + k) below in
            ap (λ (i : ℕ). round n i k) first ∙ omega (arith, one, all)
        | inr far ↦
            let above = ltb-false (a + (j + k)) n far in
            let one = round-high n (a + j) k (omega (arith, above)) in
            let all = round-high n a (j + k) above in
            ap (λ (i : ℕ). round n i k) first ∙ omega (arith, one, all)
      ]
  | inr other ↦
      let high = ltb-false (a + j) n other in
      let first = round-high n a j high in
      let one = round-low n (a + j - n) k (omega (arith, high, w, h)) in
      let all = round-high n a (j + k) (omega (arith, high)) in
      ap (λ (i : ℕ). round n i k) first ∙ omega (arith, one, all, high)
]

-- the buffers in the first of full cells
pub full-take : (k : ℕ) (vs : Cells) → AreFull vs → gots_in (take k vs) ≡ take k (gots_in vs)
full-take zero vs full = refl
full-take (suc k) [] full = refl
full-take (suc k) (None ∷ vs) full = absurd (let most = gots-most vs in omega (arith, most, full))
full-take (suc k) (Some g ∷ vs) full = ap (λ (gs : List Got). g ∷ gs) (full-take k vs (omega (arith, full)))

pub full-drop : (k : ℕ) (vs : Cells) → AreFull vs → gots_in (drop k vs) ≡ drop k (gots_in vs)
full-drop zero vs full = refl
full-drop (suc k) [] full = refl
full-drop (suc k) (None ∷ vs) full = absurd (let most = gots-most vs in omega (arith, most, full))
full-drop (suc k) (Some g ∷ vs) full = full-drop k vs (omega (arith, full))

pub full-rest : (k : ℕ) (vs : Cells) → AreFull vs → AreFull (drop k vs)
full-rest k vs full = (full-parts (take k vs) (drop k vs) (subst AreFull (sym (take-append-drop k vs)) full)).1

pub full-front : (k : ℕ) (vs : Cells) → AreFull vs → AreFull (take k vs)
full-front k vs full = (full-parts (take k vs) (drop k vs) (subst AreFull (sym (take-append-drop k vs)) full)).0

pub empty-rest : (k : ℕ) (vs : Cells) → AreEmpty vs → AreEmpty (drop k vs)
empty-rest k vs empty = (empty-parts (take k vs) (drop k vs) (subst AreEmpty (sym (take-append-drop k vs)) empty)).1

pub empty-front : (k : ℕ) (vs : Cells) → AreEmpty vs → AreEmpty (take k vs)
empty-front k vs empty = (empty-parts (take k vs) (drop k vs) (subst AreEmpty (sym (take-append-drop k vs)) empty)).0

-- buffers with no frames
abbrev pub AreBlank : List Got → Type 0
AreBlank gs = gs ≡ map blank (buffers_of gs)

pub blank-rest : (k : ℕ) (gs : List Got) → AreBlank gs → AreBlank (drop k gs)
blank-rest zero gs are = are
blank-rest (suc k) [] are = refl
blank-rest (suc k) (g ∷ gs) are = blank-rest k gs (let rest : gs ≡ map blank (buffers_of gs) = cc in rest)

pub blank-map : (bs : List Buffer) → AreBlank (map blank bs)
blank-map bs = ap (λ (l : List Buffer). map blank l) (sym (buffers-blank bs))

pub blank-both : (gs hs : List Got) → AreBlank gs → AreBlank hs → AreBlank (gs ++ hs)
blank-both gs hs first second =
    ap (λ (l : List Got). l ++ hs) first
    ∙ (ap (λ (l : List Got). map blank (buffers_of gs) ++ l) second
    ∙ (sym (map-append blank (buffers_of gs) (buffers_of hs)) ∙ ap (λ (l : List Buffer). map blank l) (sym (map-append buffer_of gs hs))))

pub blank-front : (k : ℕ) (gs : List Got) → AreBlank gs → take k gs ≡ map blank (take k (buffers_of gs))
blank-front zero gs are = refl
blank-front (suc k) [] are = refl
blank-front (suc k) (g ∷ gs) are =
    let rest : gs ≡ map blank (buffers_of gs) = cc in
    let first : g ≡ blank g.buf = cc in
    let more = blank-front k gs rest in
    cc

-- cells of which the first are empty and the others full
pub idle-gots : (lent : ℕ) (vs : Cells) → AreEmpty (take lent vs) → gots_in vs ≡ gots_in (drop lent vs)
idle-gots lent vs empty =
    sym (ap gots_in (take-append-drop lent vs)) ∙ (gots-append (take lent vs) (drop lent vs) ∙ ap (λ (gs : List Got). gs ++ gots_in (drop lent vs)) empty)

pub idle-count : (lent : ℕ) (vs : Cells) → AreEmpty (take lent vs) → AreFull (drop lent vs) → length (gots_in vs) ≡ length vs - lent
idle-count lent vs empty full = ap length (idle-gots lent vs empty) ∙ (full ∙ length-drop lent vs)

-- runs of lots
pub chain-push : (p : Ptr) (n from : ℕ) (lots : List Lot) (lot : Lot) (to after : ℕ) → Chain p n from lots to → IsAt p n to lot.reach → after ≡ round n to (length lot.reach.values) → Chain p n from (lots ++ lot ∷ []) after
chain-push p n from [] lot to after chain is e =
    let same : from ≡ to = chain in
    (record { field = is.field; size = is.size; start = is.start ∙ sym same }, ap (λ (i : ℕ). round n i (length lot.reach.values)) same ∙ sym e)
chain-push p n from (l ∷ lots) lot to after chain is e = (chain.0, chain-push p n (round n from (length l.reach.values)) lots lot to after chain.1 is e)

pub slots-push : (lots : List Lot) (lot : Lot) → slots_of (held_lots (lots ++ lot ∷ [])) ≡ slots_of (held_lots lots) + length lot.reach.values
slots-push lots lot = ap slots_of (map-append held lots (lot ∷ [])) ∙ slots_of-push (held_lots lots) (held lot)

-- a lot whose run holds something else
pub chain-set : (p : Ptr) (n from : ℕ) (lots : List Lot) (at : ℕ) (d now : Lot) (to : ℕ) → at < length lots → SameCells (get_or lots at d).reach now.reach → Chain p n from lots to → Chain p n from (slice_set lots at now) to
chain-set p n from [] at d now to within same chain = absurd (omega (arith, within))
chain-set p n from (lot ∷ lots) zero d now to within same chain =
    let is = chain.0 in
    (record { field = same.field ∙ is.field; size = same.size ∙ is.size; start = same.start ∙ is.start }, subst (λ (k : ℕ). Chain p n (round n from k) lots to) (sym same.count) chain.1)
chain-set p n from (lot ∷ lots) (suc at) d now to within same chain = (chain.0, chain-set p n (round n from (length lot.reach.values)) lots at d now to (omega (arith, within)) same chain.1)

pub held-set : (lots : List Lot) (at : ℕ) (now : Lot) → held_lots (slice_set lots at now) ≡ slice_set (held_lots lots) at (held now)
held-set [] at now = refl
held-set (lot ∷ lots) zero now = refl
held-set (lot ∷ lots) (suc at) now = ap (λ (ls : List HeldLot). held lot ∷ ls) (held-set lots at now)

pub held-get : (lots : List Lot) (at : ℕ) (d : Lot) → get_or (held_lots lots) at (held d) ≡ held (get_or lots at d)
held-get [] at d = refl
held-get (lot ∷ lots) zero d = refl
held-get (lot ∷ lots) (suc at) d = held-get lots at d

pub slots-set : (lots : List Lot) (at : ℕ) (d now : Lot) → at < length lots → length now.reach.values ≡ length (get_or lots at d).reach.values → slots_of (held_lots (slice_set lots at now)) ≡ slots_of (held_lots lots)
slots-set [] at d now within same = absurd (omega (arith, within))
slots-set (lot ∷ lots) zero d now within same =
    let one = sum_by-cons (λ (l : HeldLot). l.slots) (held now) (held_lots lots) in
    let two = sum_by-cons (λ (l : HeldLot). l.slots) (held lot) (held_lots lots) in
    omega (arith, one, two, same)
slots-set (lot ∷ lots) (suc at) d now within same =
    let rest = slots-set lots at d now (omega (arith, within)) same in
    let one = sum_by-cons (λ (l : HeldLot). l.slots) (held lot) (held_lots (slice_set lots at now)) in
    let two = sum_by-cons (λ (l : HeldLot). l.slots) (held lot) (held_lots lots) in
    omega (arith, one, two, rest)

pub all-set : (P : Lot → Type 0) (lots : List Lot) (at : ℕ) (now : Lot) → P now → All P lots → All P (slice_set lots at now)
all-set P [] at now is all = all
all-set P (lot ∷ lots) zero now is all = All-cons P now lots is (All-tail P lot lots all)
all-set P (lot ∷ lots) (suc at) now is all = All-cons P lot (slice_set lots at now) (All-head P lot lots all) (all-set P lots at now is (All-tail P lot lots all))

pub all-get : (P : Lot → Type 0) (lots : List Lot) (at : ℕ) (d : Lot) → at < length lots → All P lots → P (get_or lots at d)
all-get P [] at d within all = absurd (omega (arith, within))
all-get P (lot ∷ lots) zero d within all = All-head P lot lots all
all-get P (lot ∷ lots) (suc at) d within all = all-get P lots at d (omega (arith, within)) (All-tail P lot lots all)

pub slots-first : (lot : Lot) (lots : List Lot) → slots_of (held_lots (lot ∷ lots)) ≡ length lot.reach.values + slots_of (held_lots lots)
slots-first lot lots = sum_by-cons (λ (l : HeldLot). l.slots) (held lot) (held_lots lots)

module _ (field : FieldState) (given idle : Run (Option Got)) (lots : VecDeque Lot Global) (lent : ℕ) where
  abbrev pub ring_with : Ring
  ring_with = record { field = field; given = given; lots = lots; idle = idle; lent = lent }

-- a run without its first k cells
record Behind (p : Ptr) (n k : ℕ) (was now : Run (Option Got)) : Type 0 where
  at : IsAt p n now.start now
  begins : now.start ≡ round n was.start k
  within : now.start < n
  ends : end_of now ≡ end_of was
  left : now.values ≡ drop k was.values
  count : length now.values ≡ length was.values - k

behind : (p : Ptr) (n k : ℕ) (was now : Run (Option Got)) → IsAt p n was.start was → was.start < n → length was.values ≤ n → k ≤ length was.values
    → now ≡ record was { start = round was.size was.start k; values = drop k was.values } → Behind p n k was now
behind p n k was now at start few within is =
    let vs = was.values in
    let begins : now.start ≡ round n was.start k = ap (λ (i : Run (Option Got)). i.start) is ∙ ap (λ (m : ℕ). round m was.start k) at.size in
    let size : now.size ≡ n = ap (λ (i : Run (Option Got)). i.size) is ∙ at.size in
    let left : now.values ≡ drop k vs = ap (λ (i : Run (Option Got)). i.values) is in
    let count : length now.values ≡ length vs - k = ap length left ∙ length-drop k vs in
    let low = round-within n was.start k start (omega (arith, few, within)) in
    record {
      at = record { field = ap (λ (i : Run (Option Got)). i.field) is ∙ at.field; size = size; start = refl };
      begins = begins;
      within = omega (arith, low, begins);
      ends =
          ap (λ (m : ℕ). round m now.start (length now.values)) size
          ∙ (ap (λ (j : ℕ). round n now.start j) count
          ∙ (ap (λ (i : ℕ). round n i (length vs - k)) begins
          ∙ (round-round n was.start k (length vs - k) start (omega (arith, few, within))
          ∙ (ap (λ (j : ℕ). round n was.start j) (let sum : k + (length vs - k) ≡ length vs = omega (arith, within) in sum)
          ∙ ap (λ (m : ℕ). round m was.start (length vs)) (sym at.size)))));
      left = left;
      count = count;
    }

-- a lot behind the others, of the first idle cells
pub pushed : (r : Ring) (k after : ℕ) (lots : VecDeque Lot Global) (lot : Lot) (idle : Run (Option Got)) → IsRing r → k ≤ length r.idle.values
    → lots.items ≡ r.lots.items ++ lot ∷ [] → deque_capacity lots ≡ deque_capacity r.lots
    → idle ≡ record r.idle { start = round r.idle.size r.idle.start k; values = drop k r.idle.values }
    → SameCells (record r.idle { values = take k r.idle.values }) lot.reach → IsHeld lot
    → after ≤ length (drop k r.idle.values) → AreEmpty (take after (drop k r.idle.values)) → AreFull (drop after (drop k r.idle.values))
    → AreBlank (gots_in (drop k r.idle.values))
    → IsRing (ring_with r.field r.given idle lots after)
pushed r k after lots lot idle is within added same_room idle_is cells holds fits empty full blanks =
    let n = r.field.size in
    let whole = is.all in
    let b = behind r.field.field n k r.idle idle is.idle is.idle_within (omega (arith, whole)) within idle_is in
    let count : length lot.reach.values ≡ k = cells.count ∙ length-take-le k r.idle.values within in
    let slots = ap (λ (ls : List Lot). slots_of (held_lots ls)) added ∙ slots-push r.lots.items lot in
    record {
      given = is.given;
      lots = subst (λ (ls : List Lot). Chain r.field.field n (end_of r.given) ls idle.start) (sym added)
          (chain-push r.field.field n (end_of r.given) r.lots.items lot r.idle.start idle.start is.lots
          (record { field = cells.field ∙ is.idle.field; size = cells.size ∙ is.idle.size; start = cells.start })
          (b.begins ∙ ap (λ (j : ℕ). round n r.idle.start j) (sym count)));
      idle = b.at;
      round = b.ends ∙ is.round;
      given_within = is.given_within;
      idle_within = b.within;
      few = is.few;
      all = (let rest = b.count in omega (arith, slots, count, rest, whole, within));
      none = is.none;
      held = subst (λ (ls : List Lot). All IsHeld ls) (sym added) (All-push IsHeld r.lots.items lot is.held holds);
      lent_within = subst (λ (cs : Cells). after ≤ length cs) (sym b.left) fits;
      lent = subst (λ (cs : Cells). AreEmpty (take after cs)) (sym b.left) empty;
      full = subst (λ (cs : Cells). AreFull (drop after cs)) (sym b.left) full;
      blank = subst (λ (cs : Cells). AreBlank (gots_in cs)) (sym b.left) blanks;
      room = (let room = is.room in omega (arith, room, same_room));
    }

-- what the ring then holds
pub pushed-line : (r : Ring) (after : ℕ) (lots : VecDeque Lot Global) (lot : Lot) (idle : Run (Option Got)) (bufs : List Buffer) (opened : HeldLot) → lots.items ≡ r.lots.items ++ lot ∷ []
    → buffers_of (gots_in idle.values) ≡ bufs → held lot ≡ opened → ring_state (ring_with r.field r.given idle lots after) ≡ record { size = r.field.size; idle = bufs; lots = held_lots r.lots.items ++ opened ∷ [] }
pushed-line r after lots lot idle bufs opened added holds is =
    let now : held_lots lots.items ≡ held_lots r.lots.items ++ opened ∷ [] =
    ap held_lots added ∙ (map-append held r.lots.items (lot ∷ []) ∙ ap (λ (l : HeldLot). held_lots r.lots.items ++ l ∷ []) is) in
    rw (holds, now) refl

pub seam-at : (m : ℕ) (xs ys : Cells) → m ≡ length xs → (take m (xs ++ ys) ≡ xs) × (drop m (xs ++ ys) ≡ ys)
seam-at zero [] ys e = (refl, refl)
seam-at zero (x ∷ xs) ys e = absurd (omega (arith, e))
seam-at (suc m) [] ys e = absurd (omega (arith, e))
seam-at (suc m) (x ∷ xs) ys e = let rest = seam-at m xs ys (omega (arith, e)) in (ap (λ (l : Cells). x ∷ l) rest.0, rest.1)

-- buffers that came back into the first cells that were given, which are then the last idle ones
pub came_back : (r : Ring) (k : ℕ) (back : List Buffer) (run given idle : Run (Option Got)) → IsRing r → k ≤ length r.given.values → length back ≡ k
    → given ≡ record r.given { start = round r.given.size r.given.start k; values = drop k r.given.values }
    → SameCells (record r.given { values = take k r.given.values }) run → gots_in run.values ≡ map blank back
    → idle ≡ record r.idle { values = r.idle.values ++ run.values }
    → IsRing (ring_with r.field given idle r.lots r.lent)
came_back r k back run given idle is within count given_is cells gots idle_is =
    let n = r.field.size in
    let ws = r.idle.values in
    let whole = is.all in
    let b = behind r.field.field n k r.given given is.given is.given_within (omega (arith, whole)) within given_is in
    let long : length run.values ≡ k = cells.count ∙ length-take-le k r.given.values within in
    let now : idle.values ≡ ws ++ run.values = ap (λ (i : Run (Option Got)). i.values) idle_is in
    let start : idle.start ≡ r.idle.start = ap (λ (i : Run (Option Got)). i.start) idle_is in
    let size : idle.size ≡ n = ap (λ (i : Run (Option Got)). i.size) idle_is ∙ is.idle.size in
    let more = length-append ws run.values in
    let was_within = is.lent_within in
    let full : AreFull run.values = (let blanks = ap length gots ∙ length-map back blank in omega (arith, blanks, count, long)) in
    let cut : ws ++ run.values ≡ take r.lent ws ++ (drop r.lent ws ++ run.values) =
    ap (λ (l : Cells). l ++ run.values) (sym (take-append-drop r.lent ws)) ∙ append_assoc (take r.lent ws) (drop r.lent ws) run.values in
    let few = length-take-le r.lent ws is.lent_within in
    let parts = seam-at r.lent (take r.lent ws) (drop r.lent ws ++ run.values) (sym few) in
    record {
      given = b.at;
      lots = subst (λ (to : ℕ). Chain r.field.field n (end_of given) r.lots.items to) (sym start) (subst (λ (from : ℕ). Chain r.field.field n from r.lots.items r.idle.start) (sym b.ends) is.lots);
      idle = record { field = ap (λ (i : Run (Option Got)). i.field) idle_is ∙ is.idle.field; size = size; start = refl };
      round =
          ap (λ (m : ℕ). round m idle.start (length idle.values)) size
          ∙ (ap (λ (i : ℕ). round n i (length idle.values)) start
          ∙ (ap (λ (j : ℕ). round n r.idle.start j) (ap length now ∙ (more ∙ ap (λ (j : ℕ). length ws + j) long))
          ∙ (sym (round-round n r.idle.start (length ws) k is.idle_within (omega (arith, whole, within)))
          ∙ (ap (λ (i : ℕ). round n i k) (ap (λ (m : ℕ). round m r.idle.start (length ws)) (sym is.idle.size) ∙ is.round) ∙ sym b.begins))));
      given_within = b.within;
      idle_within = (let low = is.idle_within in omega (arith, low, start));
      few = is.few;
      all = (let rest = b.count in let two = ap length now in omega (arith, rest, two, more, long, whole, within));
      none = subst AreEmpty (sym b.left) (empty-rest k r.given.values is.none);
      held = is.held;
      lent_within = (let two = ap length now in omega (arith, two, more, was_within));
      lent = subst (λ (cs : Cells). AreEmpty (take r.lent cs)) (sym (now ∙ cut)) (subst AreEmpty (sym parts.0) is.lent);
      full = subst (λ (cs : Cells). AreFull (drop r.lent cs)) (sym (now ∙ cut)) (subst AreFull (sym parts.1) (full-both (drop r.lent ws) run.values is.full full));
      blank = subst (λ (cs : Cells). AreBlank (gots_in cs)) (sym now) (subst AreBlank (sym (gots-append ws run.values)) (blank-both (gots_in ws) (gots_in run.values) is.blank (subst AreBlank (sym gots) (blank-map back))));
      room = is.room;
    }

-- the first lot's cells given, without their buffers
pub published : (r s : Ring) (lots : List Lot) (lot : Lot) (run given : Run (Option Got)) → IsRing r → r.lots.items ≡ lot ∷ lots → s.lots.items ≡ lots
    → deque_capacity s.lots ≡ deque_capacity r.lots → s.field ≡ r.field → s.given ≡ r.given → s.idle ≡ r.idle → s.lent ≡ r.lent
    → SameCells lot.reach run → AreEmpty run.values
    → given ≡ record s.given { values = s.given.values ++ run.values }
    → IsRing (ring_with s.field given s.idle s.lots s.lent)
published r s lots lot run given is was now same_room same_field same_given same_idle same_lent cells empty given_is =
    let n = r.field.size in
    let vs = r.given.values in
    let whole = is.all in
    let chain : Chain r.field.field n (end_of r.given) (lot ∷ lots) r.idle.start = subst (λ (ls : List Lot). Chain r.field.field n (end_of r.given) ls r.idle.start) was is.lots in
    let given_now : given ≡ record r.given { values = vs ++ run.values } = given_is ∙ ap (λ (g : Run (Option Got)). record g { values = g.values ++ run.values }) same_given in
    let values : given.values ≡ vs ++ run.values = ap (λ (g : Run (Option Got)). g.values) given_now in
    let size : given.size ≡ n = ap (λ (g : Run (Option Got)). g.size) given_now ∙ is.given.size in
    let start : given.start ≡ r.given.start = ap (λ (g : Run (Option Got)). g.start) given_now in
    let k = length lot.reach.values in
    let long : length given.values ≡ length vs + k = ap length values ∙ (length-append vs run.values ∙ ap (λ (j : ℕ). length vs + j) cells.count) in
    let slots = ap (λ (ls : List Lot). slots_of (held_lots ls)) was ∙ slots-first lot lots in
    let slots2 = ap (λ (ls : List Lot). slots_of (held_lots ls)) now in
    let ends : end_of given ≡ round n (end_of r.given) k =
    ap (λ (m : ℕ). round m given.start (length given.values)) size
    ∙ (ap (λ (i : ℕ). round n i (length given.values)) start
    ∙ (ap (λ (j : ℕ). round n r.given.start j) long
    ∙ (sym (round-round n r.given.start (length vs) k is.given_within (omega (arith, whole, slots)))
    ∙ ap (λ (m : ℕ). round n (round m r.given.start (length vs)) k) (sym is.given.size)))) in
    let with_r : IsRing (ring_with r.field given r.idle s.lots r.lent) = record {
      given = record { field = ap (λ (g : Run (Option Got)). g.field) given_now ∙ is.given.field; size = size; start = refl };
      lots = subst (λ (ls : List Lot). Chain r.field.field n (end_of given) ls r.idle.start) (sym now) (subst (λ (from : ℕ). Chain r.field.field n from lots r.idle.start) (sym ends) chain.1);
      idle = is.idle;
      round = is.round ∙ sym start;
      given_within = (let low = is.given_within in omega (arith, low, start));
      idle_within = is.idle_within;
      few = is.few;
      all = omega (arith, whole, slots, slots2, long);
      none = subst AreEmpty (sym values) (empty-both vs run.values is.none empty);
      held = subst (λ (ls : List Lot). All IsHeld ls) (sym now) (All-tail IsHeld lot lots (subst (λ (ls : List Lot). All IsHeld ls) was is.held));
      lent_within = is.lent_within;
      lent = is.lent;
      full = is.full;
      blank = is.blank;
      room = (let room = is.room in omega (arith, room, same_room));
    } in
    subst (λ (f : FieldState). IsRing (ring_with f given s.idle s.lots s.lent)) (sym same_field)
    (subst (λ (i : Run (Option Got)). IsRing (ring_with r.field given i s.lots s.lent)) (sym same_idle)
    (subst (λ (l : ℕ). IsRing (ring_with r.field given r.idle s.lots l)) (sym same_lent) with_r))

-- where a first lot is done there is one
pub some-lot : (lots : List Lot) → is_some (first_gots (held_lots lots)) ≡ true → 1 ≤ length lots
some-lot [] done = absurd (let wrong : false ≡ true = done in cc)
some-lot (lot ∷ lots) done = omega arith

-- what a lot has told of its buffers
pub mapped-some : (o : Option (Vec Got Global)) → is_some (option_map items_of o) ≡ is_some o
mapped-some None = refl
mapped-some (Some v) = refl

pub mapped-none : (o : Option (Vec Got Global)) → option_map items_of o ≡ None → o ≡ None
mapped-none None e = refl
mapped-none (Some v) e = absurd (let wrong : true ≡ false = ap is_some e in cc)

-- the first lot, if that is done, and its buffers
pub first-some : (lots : List Lot) (first : Lot) → IfSome (slice_get lots 0) (λ (lot : Lot). first ≡ lot) → is_some (first_gots (held_lots lots)) ≡ true
    → is_some first.gots ≡ true
first-some [] first told done = absurd (let wrong : false ≡ true = done in cc)
first-some (lot ∷ lots) first told done = ap (λ (l : Lot). is_some l.gots) told ∙ (sym (mapped-some lot.gots) ∙ done)

pub first-held : (lots : List Lot) (first : Lot) (v : Vec Got Global) → 1 ≤ length lots → IfSome (slice_get lots 0) (λ (lot : Lot). first ≡ lot) → first.gots ≡ Some v
    → gots_of_first (held_lots lots) ≡ v.items
first-held [] first v some told is = absurd (omega (arith, some))
first-held (lot ∷ lots) first v some told is =
    ap (λ (o : Option (Vec Got Global)). option_map_or (λ (gots : List Got). gots) (option_map items_of o) []) (ap (λ (l : Lot). l.gots) (sym told) ∙ is)

pub same-run : (run : Run (Option Got)) → SameCells run run
same-run run = record { field = refl; size = refl; start = refl; count = refl }

-- the same, told of the first lot only
pub published-first : (r s : Ring) (first : Lot) (given : Run (Option Got)) → IsRing r → 1 ≤ length r.lots.items
    → IfSome (slice_get r.lots.items 0) (λ (lot : Lot). first ≡ lot) → s.lots.items ≡ drop 1 r.lots.items
    → deque_capacity s.lots ≡ deque_capacity r.lots → s.field ≡ r.field → s.given ≡ r.given → s.idle ≡ r.idle → s.lent ≡ r.lent
    → given ≡ record s.given { values = s.given.values ++ first.reach.values }
    → IsRing (ring_with s.field given s.idle s.lots s.lent)
published-first r s first given is some told now same_room same_field same_given same_idle same_lent given_is = by r.lots.items refl
  where
    by : (items : List Lot) → r.lots.items ≡ items → IsRing (ring_with s.field given s.idle s.lots s.lent)
    by [] e = absurd (let none = ap length e in omega (arith, none, some))
    by (lot ∷ lots) e =
        let same : first ≡ lot = subst (λ (ls : List Lot). IfSome (slice_get ls 0) (λ (l : Lot). first ≡ l)) e told in
        published r s lots lot lot.reach given is e (now ∙ ap (λ (ls : List Lot). drop 1 ls) e) same_room same_field same_given same_idle same_lent
        (same-run lot.reach) (All-head IsHeld lot lots (subst (λ (ls : List Lot). All IsHeld ls) e is.held))
        (given_is ∙ ap (λ (l : Lot). record s.given { values = s.given.values ++ l.reach.values }) same)

-- the first lot's cells begin where those that were given end
pub first-meets : (r s : Ring) (first : Lot) (run : Run (Option Got)) → IsRing r → 1 ≤ length r.lots.items
    → IfSome (slice_get r.lots.items 0) (λ (lot : Lot). first ≡ lot) → s.given ≡ r.given → run ≡ first.reach → Meet s.given run
first-meets r s first run is some told same_given same_run = by r.lots.items refl
  where
    by : (items : List Lot) → r.lots.items ≡ items → Meet s.given run
    by [] e = absurd (let none = ap length e in omega (arith, none, some))
    by (lot ∷ lots) e =
        let same : first ≡ lot = subst (λ (ls : List Lot). IfSome (slice_get ls 0) (λ (l : Lot). first ≡ l)) e told in
        let chain : Chain r.field.field r.field.size (end_of r.given) (lot ∷ lots) r.idle.start =
        subst (λ (ls : List Lot). Chain r.field.field r.field.size (end_of r.given) ls r.idle.start) e is.lots in
        let slots = ap (λ (ls : List Lot). slots_of (held_lots ls)) e ∙ slots-first lot lots in
        let whole = is.all in
        let size = is.given.size in
        let meet : Meet r.given lot.reach = record {
          field = chain.0.field ∙ sym is.given.field;
          size = chain.0.size ∙ sym is.given.size;
          start = chain.0.start;
          room = omega (arith, whole, slots, size);
        } in
        subst (λ (g : Run (Option Got)). Meet g run) (sym same_given)
        (subst (λ (n : Run (Option Got)). Meet r.given n) (sym (same_run ∙ ap (λ (l : Lot). l.reach) same)) meet)

-- a lot that was completed
pub done_at : (r : Ring) (lots : VecDeque Lot Global) (at : ℕ) (d now : Lot) → IsRing r → at < length r.lots.items → lots.items ≡ slice_set r.lots.items at now
    → deque_capacity lots ≡ deque_capacity r.lots → now.reach ≡ (get_or r.lots.items at d).reach
    → IsRing (ring_with r.field r.given r.idle lots r.lent)
done_at r lots at d now is within set same_room same =
    let n = r.field.size in
    let whole = is.all in
    let cells : SameCells (get_or r.lots.items at d).reach now.reach = subst (λ (run : Run (Option Got)). SameCells (get_or r.lots.items at d).reach run) (sym same) (same-run (get_or r.lots.items at d).reach) in
    let slots = ap (λ (ls : List Lot). slots_of (held_lots ls)) set ∙ slots-set r.lots.items at d now within cells.count in
    let empty : IsHeld now = subst (λ (run : Run (Option Got)). AreEmpty run.values) (sym same) (all-get IsHeld r.lots.items at d within is.held) in
    record {
      given = is.given;
      lots = subst (λ (ls : List Lot). Chain r.field.field n (end_of r.given) ls r.idle.start) (sym set) (chain-set r.field.field n (end_of r.given) r.lots.items at d now r.idle.start within cells is.lots);
      idle = is.idle;
      round = is.round;
      given_within = is.given_within;
      idle_within = is.idle_within;
      few = is.few;
      all = omega (arith, whole, slots);
      none = is.none;
      held = subst (λ (ls : List Lot). All IsHeld ls) (sym set) (all-set IsHeld r.lots.items at now empty is.held);
      lent_within = is.lent_within;
      lent = is.lent;
      full = is.full;
      blank = is.blank;
      room = (let room = is.room in omega (arith, room, same_room));
    }

-- the buffers of the first cells lent
pub lent_out : (r : Ring) (k : ℕ) (run rest idle : Run (Option Got)) → IsRing r → r.lent ≡ 0 → k ≤ length r.idle.values
    → SameCells (record r.idle { values = take k r.idle.values }) run → AreEmpty run.values → rest.values ≡ drop k r.idle.values
    → idle ≡ record run { values = run.values ++ rest.values }
    → IsRing (ring_with r.field r.given idle r.lots k)
lent_out r k run rest idle is none within cells empty rest_is idle_is =
    let n = r.field.size in
    let vs = r.idle.values in
    let whole = is.all in
    let front = length-take-le k vs within in
    let left = length-drop k vs in
    let values : idle.values ≡ run.values ++ drop k vs = ap (λ (i : Run (Option Got)). i.values) idle_is ∙ ap (λ (l : Cells). run.values ++ l) rest_is in
    let size : idle.size ≡ n = ap (λ (i : Run (Option Got)). i.size) idle_is ∙ (cells.size ∙ is.idle.size) in
    let start : idle.start ≡ r.idle.start = ap (λ (i : Run (Option Got)). i.start) idle_is ∙ cells.start in
    let all_long : length idle.values ≡ length vs = (let one = ap length values in let two = length-append run.values (drop k vs) in let three = cells.count in omega (arith, one, two, three, front, left, within)) in
    let long : length run.values ≡ k = cells.count ∙ front in
    let parts = seam-at k run.values (drop k vs) (sym long) in
    let full_all : AreFull vs = subst (λ (l : ℕ). AreFull (drop l vs)) none is.full in
    let gots : gots_in idle.values ≡ drop k (gots_in vs) = ap gots_in values ∙ (gots-append run.values (drop k vs) ∙ (ap (λ (l : List Got). l ++ gots_in (drop k vs)) empty ∙ full-drop k vs full_all)) in
    record {
      given = is.given;
      lots = subst (λ (to : ℕ). Chain r.field.field n (end_of r.given) r.lots.items to) (sym start) is.lots;
      idle = record { field = ap (λ (i : Run (Option Got)). i.field) idle_is ∙ (cells.field ∙ is.idle.field); size = size; start = refl };
      round =
          ap (λ (m : ℕ). round m idle.start (length idle.values)) (size ∙ sym is.idle.size)
          ∙ (ap (λ (i : ℕ). round r.idle.size i (length idle.values)) start
          ∙ (ap (λ (j : ℕ). round r.idle.size r.idle.start j) all_long ∙ is.round));
      given_within = is.given_within;
      idle_within = (let low = is.idle_within in omega (arith, low, start));
      few = is.few;
      all = omega (arith, whole, all_long);
      none = is.none;
      held = is.held;
      lent_within = omega (arith, within, all_long);
      lent = subst (λ (cs : Cells). AreEmpty (take k cs)) (sym values) (subst AreEmpty (sym parts.0) empty);
      full = subst (λ (cs : Cells). AreFull (drop k cs)) (sym values) (subst AreFull (sym parts.1) (full-rest k vs full_all));
      blank = subst AreBlank (sym gots) (blank-rest k (gots_in vs) is.blank);
      room = is.room;
    }

-- a lot of a ring found at a place
pub held-found : (id : ℕ) (lots : List Lot) (at : ℕ) (d : Lot) → at < length lots → IfSome (slice_get lots at) (λ (lot : Lot). is_out_at id (held lot) ≡ true) → is_out_at id (held (get_or lots at d)) ≡ true
held-found id [] at d within found = absurd (omega (arith, within))
held-found id (lot ∷ lots) zero d within found = found
held-found id (lot ∷ lots) (suc at) d within found = held-found id lots at d (omega (arith, within)) found

pub count-at : (lots : List Lot) (id n at : ℕ) (d : Lot) → AreLeases (leases_of (held_lots lots)) → at < length lots → IfSome (slice_get lots at) (λ (lot : Lot). is_out_at id (held lot) ≡ true)
    → slots_out id (held_lots lots) ≡ Some n → n ≡ length (get_or lots at d).reach.values
count-at lots id n at d are within found is =
    let out = held-found id lots at d within found in
    let place = held-get lots at d in
    let long = length-map lots held in
    let slots = slots-at (held_lots lots) id n at (held d) are (omega (arith, within, long)) (ap (λ (l : HeldLot). is_out_at id l) place ∙ out) is in
    let same = ap (λ (l : HeldLot). l.slots) place in
    omega (arith, slots, same)

abbrev IsNoLotOut : ℕ → Lot → Type 0
IsNoLotOut id lot = is_out_at id (held lot) ≡ false

pub held-none : (id : ℕ) (lots : List Lot) → All (λ (lot : Lot). is_out_at id (held lot) ≡ false) lots → list_any (is_out_at id) (held_lots lots) ≡ false
held-none id [] none = refl
held-none id (lot ∷ lots) none =
    or_from (is_out_at id (held lot)) (list_any (is_out_at id) (held_lots lots)) (All-head (IsNoLotOut id) lot lots none) (held-none id lots (All-tail (IsNoLotOut id) lot lots none))

abbrev done_with : List Got → HeldLot → HeldLot
done_with gots lot = record lot { gots = Some gots }

-- what is held once a lot was completed
pub held-completed : (lots : List Lot) (id at : ℕ) (v : Vec Got Global) (d now : Lot) → AreLeases (leases_of (held_lots lots)) → at < length lots
    → is_out_at id (held (get_or lots at d)) ≡ true → now ≡ record (get_or lots at d) { gots = Some v }
    → held_lots (slice_set lots at now) ≡ map (completed id v.items) (held_lots lots)
held-completed lots id at v d now are within out is =
    let place = held-get lots at d in
    let found : is_out_at id (get_or (held_lots lots) at (held d)) ≡ true = ap (λ (l : HeldLot). is_out_at id l) place ∙ out in
    let long : length (held_lots lots) ≡ length lots = length-map lots held in
    let set = set-completed-lot (held_lots lots) id at v.items (held d) are (omega (arith, within, long)) found in
    let same : held now ≡ done_with v.items (held (get_or lots at d)) = ap held is in
    held-set lots at now ∙ (ap (λ (l : HeldLot). slice_set (held_lots lots) at l) (same ∙ ap (λ (l : HeldLot). done_with v.items l) (sym place)) ∙ set)

-- the lot that was found has no buffers
pub none-found : (id : ℕ) (lots : List Lot) (at : ℕ) (d : Lot) → at < length lots → IfSome (slice_get lots at) (λ (lot : Lot). is_out_at id (held lot) ≡ true) → (get_or lots at d).gots ≡ None
none-found id lots at d within found = mapped-none (get_or lots at d).gots (none-of-out id (held (get_or lots at d)) (held-found id lots at d within found))

-- a ring whose idle buffers were moved
pub shifted : (r : Ring) (k : ℕ) (idle given : Run (Option Got)) → IsRing r → k ≤ r.lent + length r.given.values → IsAt r.idle.field r.idle.size r.idle.start idle
    → length idle.values ≡ k + (length r.idle.values - r.lent) → AreEmpty (take k idle.values) → AreFull (drop k idle.values)
    → gots_in idle.values ≡ map blank (buffers_of (gots_in r.idle.values)) → IsAt r.idle.field r.idle.size (end_of idle) given
    → length given.values + length idle.values ≡ length r.given.values + length r.idle.values → AreEmpty given.values
    → IsRing (ring_with r.field given idle r.lots k)
shifted r k idle given is few at count lent full gots at2 both empty =
    let n = r.field.size in
    let s = r.idle.start in
    let whole = is.all in
    let within = is.lent_within in
    let size : idle.size ≡ n = at.size ∙ is.idle.size in
    let size2 : given.size ≡ n = at2.size ∙ is.idle.size in
    let ends : end_of idle ≡ round n s (length idle.values) =
    ap (λ (m : ℕ). round m idle.start (length idle.values)) size ∙ ap (λ (i : ℕ). round n i (length idle.values)) at.start in
    let start2 : given.start ≡ round n s (length idle.values) = at2.start ∙ ends in
    let old_end : round n s (length r.idle.values) ≡ r.given.start = ap (λ (m : ℕ). round m s (length r.idle.values)) (sym is.idle.size) ∙ is.round in
    let same : end_of given ≡ end_of r.given =
    ap (λ (m : ℕ). round m given.start (length given.values)) size2
    ∙ (ap (λ (i : ℕ). round n i (length given.values)) start2
    ∙ (round-round n s (length idle.values) (length given.values) is.idle_within (omega (arith, both, whole))
    ∙ (ap (λ (j : ℕ). round n s j) (let e : length idle.values + length given.values ≡ length r.idle.values + length r.given.values = omega (arith, both) in e)
    ∙ (sym (round-round n s (length r.idle.values) (length r.given.values) is.idle_within (omega (arith, whole)))
    ∙ (ap (λ (i : ℕ). round n i (length r.given.values)) old_end
    ∙ ap (λ (m : ℕ). round m r.given.start (length r.given.values)) (sym is.given.size)))))) in
    record {
      given = record { field = at2.field ∙ is.idle.field; size = size2; start = refl };
      lots = subst (λ (to : ℕ). Chain r.field.field n (end_of given) r.lots.items to) (sym at.start) (subst (λ (from : ℕ). Chain r.field.field n from r.lots.items s) (sym same) is.lots);
      idle = record { field = at.field ∙ is.idle.field; size = size; start = refl };
      round = sym at2.start;
      given_within = (let low = round-within n s (length idle.values) is.idle_within (omega (arith, both, whole)) in omega (arith, low, start2));
      idle_within = (let low = is.idle_within in let e = at.start in omega (arith, low, e));
      few = is.few;
      all = omega (arith, both, whole);
      none = empty;
      held = is.held;
      lent_within = omega (arith, count);
      lent = lent;
      full = full;
      blank = subst AreBlank (sym gots) (blank-map (buffers_of (gots_in r.idle.values)));
      room = is.room;
    }

-- what is known while idle buffers are moved
pub record Moves (w g idle1 full1 rest : Run (Option Got)) (bufs : List Buffer) (lent k : ℕ) : Type 0 where
  pub idle_at : IsAt w.field w.size w.start idle1
  pub idle_count : length idle1.values ≡ k
  pub idle_empty : AreEmpty idle1.values
  pub full_at : IsAt w.field w.size (round w.size w.start k) full1
  pub full_count : length full1.values ≡ length w.values - lent
  pub full_empty : AreEmpty full1.values
  pub rest_at : IsAt w.field w.size (round w.size (round w.size w.start k) (length w.values - lent)) rest
  pub rest_count : length rest.values + (k + (length w.values - lent)) ≡ length w.values + length g.values
  pub rest_empty : AreEmpty rest.values
  pub bufs_are : bufs ≡ buffers_of (gots_in w.values)
  pub bufs_count : length bufs ≡ length w.values - lent

module _ {w g all0 full0 run1 all1 a idle1 b full1 rest : Run (Option Got)} {room bufs : List Buffer} (lent k count : ℕ)
    (e0 : all0 ≡ record w { values = take lent w.values })
    (e1 : full0 ≡ record w { start = round w.size w.start lent; values = drop lent w.values })
    (len : count ≡ length full0.values) (s1 : SameCells full0 run1) (z1 : AreEmpty run1.values)
    (t1 : bufs ≡ room ++ buffers_of (gots_in full0.values)) (none : room ≡ [])
    (e2 : all1 ≡ record all0 { values = all0.values ++ run1.values })
    (e3 : a ≡ record all1 { values = all1.values ++ g.values })
    (e4 : idle1 ≡ record a { values = take k a.values })
    (e5 : b ≡ record a { start = round a.size a.start k; values = drop k a.values })
    (e6 : full1 ≡ record b { values = take count b.values })
    (e7 : rest ≡ record b { start = round b.size b.start count; values = drop count b.values })
    (within : lent ≤ length w.values) (few : k ≤ lent + length g.values)
    (lent_empty : AreEmpty (take lent w.values)) (full : AreFull (drop lent w.values)) (given_empty : AreEmpty g.values) where
  pub moves : Moves w g idle1 full1 rest bufs lent k
  moves =
      let ws = w.values in
      let counted : count ≡ length ws - lent = len ∙ (ap (λ (i : Run (Option Got)). length i.values) e1 ∙ length-drop lent ws) in
      let a_is : a ≡ record w { values = (take lent ws ++ run1.values) ++ g.values } =
      e3 ∙ (ap (λ (i : Run (Option Got)). record i { values = i.values ++ g.values }) e2 ∙ ap (λ (i : Run (Option Got)). record i { values = (i.values ++ run1.values) ++ g.values }) e0) in
      let vs = (take lent ws ++ run1.values) ++ g.values in
      let all_empty : AreEmpty vs = empty-both (take lent ws ++ run1.values) g.values (empty-both (take lent ws) run1.values lent_empty z1) given_empty in
      let front = length-take-le lent ws within in
      let run_count : length run1.values ≡ length ws - lent = s1.count ∙ (ap (λ (i : Run (Option Got)). length i.values) e1 ∙ length-drop lent ws) in
      let one = length-append (take lent ws ++ run1.values) g.values in
      let two = length-append (take lent ws) run1.values in
      let long : length vs ≡ length ws + length g.values = omega (arith, one, two, front, run_count, within) in
      let b_is : b ≡ record w { start = round w.size w.start k; values = drop k vs } = e5 ∙ ap (λ (i : Run (Option Got)). record i { start = round i.size i.start k; values = drop k i.values }) a_is in
      let idle_is : idle1 ≡ record w { values = take k vs } = e4 ∙ ap (λ (i : Run (Option Got)). record i { values = take k i.values }) a_is in
      let full_is : full1 ≡ record w { start = round w.size w.start k; values = take count (drop k vs) } = e6 ∙ ap (λ (i : Run (Option Got)). record i { values = take count i.values }) b_is in
      let rest_is : rest ≡ record w { start = round w.size (round w.size w.start k) count; values = drop count (drop k vs) } =
      e7 ∙ ap (λ (i : Run (Option Got)). record i { start = round i.size i.start count; values = drop count i.values }) b_is in
      let behind = length-drop k vs in
      let left = length-drop count (drop k vs) in
      let mid = length-take-le count (drop k vs) (omega (arith, behind, long, counted, few, within)) in
      let first = length-take-le k vs (omega (arith, long, few, within)) in
      let i_len = ap (λ (i : Run (Option Got)). length i.values) idle_is in
      let f_len = ap (λ (i : Run (Option Got)). length i.values) full_is in
      let r_len = ap (λ (i : Run (Option Got)). length i.values) rest_is in
      let gots = idle-gots lent ws lent_empty in
      let moved : bufs ≡ buffers_of (gots_in ws) =
      t1 ∙ (ap (λ (l : List Buffer). l ++ buffers_of (gots_in full0.values)) none ∙ (ap (λ (i : Run (Option Got)). buffers_of (gots_in i.values)) e1 ∙ ap buffers_of (sym gots))) in
      record {
        idle_at = record { field = ap (λ (i : Run (Option Got)). i.field) idle_is; size = ap (λ (i : Run (Option Got)). i.size) idle_is; start = ap (λ (i : Run (Option Got)). i.start) idle_is };
        idle_count = i_len ∙ first;
        idle_empty = subst (λ (i : Run (Option Got)). AreEmpty i.values) (sym idle_is) (empty-front k vs all_empty);
        full_at = record { field = ap (λ (i : Run (Option Got)). i.field) full_is; size = ap (λ (i : Run (Option Got)). i.size) full_is; start = ap (λ (i : Run (Option Got)). i.start) full_is };
        full_count = f_len ∙ (mid ∙ counted);
        full_empty = subst (λ (i : Run (Option Got)). AreEmpty i.values) (sym full_is) (empty-front count (drop k vs) (empty-rest k vs all_empty));
        rest_at = record {
          field = ap (λ (i : Run (Option Got)). i.field) rest_is;
          size = ap (λ (i : Run (Option Got)). i.size) rest_is;
          start = ap (λ (i : Run (Option Got)). i.start) rest_is ∙ ap (λ (j : ℕ). round w.size (round w.size w.start k) j) counted;
        };
        rest_count = omega (arith, r_len, left, behind, long, counted, few, within);
        rest_empty = subst (λ (i : Run (Option Got)). AreEmpty i.values) (sym rest_is) (empty-rest count (drop k vs) (empty-rest k vs all_empty));
        bufs_are = moved;
        bufs_count = ap length moved ∙ (length-map (gots_in ws) buffer_of ∙ idle-count lent ws lent_empty full);
      }

-- the ring that is made first
pub first_ring : (field : FieldState) (idle given now : Run (Option Got)) (lots : VecDeque Lot Global) → 1 ≤ field.size → field.size ≤ most_ring
    → idle.field ≡ field.field → idle.size ≡ field.size → length idle.values ≡ field.size → idle.start ≡ 0 → lots.items ≡ [] → field.size ≤ deque_capacity lots
    → AreFull idle.values → AreBlank (gots_in idle.values)
    → given ≡ record idle { values = take 0 idle.values } → now ≡ record idle { start = round idle.size idle.start 0; values = drop 0 idle.values }
    → IsRing (ring_with field given now lots 0)
first_ring field idle given now lots some few in_field size long start none room full blanks given_is now_is =
    let n = field.size in
    let positive : 0 < n = omega (arith, some) in
    let stay : round n 0 0 ≡ 0 = round-low n 0 0 positive in
    let about : round n 0 n ≡ 0 = round-high n 0 n (omega arith) ∙ omega arith in
    let now_size : now.size ≡ n = ap (λ (i : Run (Option Got)). i.size) now_is ∙ size in
    let now_start : now.start ≡ 0 = ap (λ (i : Run (Option Got)). i.start) now_is ∙ (ap (λ (m : ℕ). round m idle.start 0) size ∙ (ap (λ (i : ℕ). round n i 0) start ∙ stay)) in
    let now_values : now.values ≡ idle.values = ap (λ (i : Run (Option Got)). i.values) now_is in
    let given_size : given.size ≡ n = ap (λ (i : Run (Option Got)). i.size) given_is ∙ size in
    let given_start : given.start ≡ 0 = ap (λ (i : Run (Option Got)). i.start) given_is ∙ start in
    let given_values : given.values ≡ [] = ap (λ (i : Run (Option Got)). i.values) given_is in
    let zero_len = ap length given_values in
    let now_len = ap length now_values in
    let ends : end_of given ≡ 0 =
    ap (λ (m : ℕ). round m given.start (length given.values)) given_size ∙ (ap (λ (i : ℕ). round n i (length given.values)) given_start ∙ (ap (λ (j : ℕ). round n 0 j) zero_len ∙ stay)) in
    record {
      given = record { field = ap (λ (i : Run (Option Got)). i.field) given_is ∙ in_field; size = given_size; start = refl };
      lots = subst (λ (ls : List Lot). Chain field.field n (end_of given) ls now.start) (sym none) (ends ∙ sym now_start);
      idle = record { field = ap (λ (i : Run (Option Got)). i.field) now_is ∙ in_field; size = now_size; start = refl };
      round =
          ap (λ (m : ℕ). round m now.start (length now.values)) now_size
          ∙ (ap (λ (i : ℕ). round n i (length now.values)) now_start ∙ (ap (λ (j : ℕ). round n 0 j) (now_len ∙ long) ∙ (about ∙ sym given_start)));
      given_within = omega (arith, given_start, positive);
      idle_within = omega (arith, now_start, positive);
      few = few;
      all = (let no_lots = ap (λ (ls : List Lot). slots_of (held_lots ls)) none in omega (arith, zero_len, now_len, long, no_lots));
      none = subst AreEmpty (sym given_values) refl;
      held = subst (λ (ls : List Lot). All IsHeld ls) (sym none) (All-nil IsHeld);
      lent_within = omega arith;
      lent = refl;
      full = subst AreFull (sym now_values) full;
      blank = subst (λ (cs : Cells). AreBlank (gots_in cs)) (sym now_values) blanks;
      room = room;
    }

-- no lots are held where there are none
pub no-lots : (lots : List Lot) → held_lots lots ≡ [] → length lots ≡ 0
no-lots [] e = refl
no-lots (lot ∷ lots) e = absurd (let wrong : held lot ∷ held_lots lots ≡ [] = e in cc)

pub no-bufs : (gs : List Got) → buffers_of gs ≡ [] → gs ≡ []
no-bufs [] e = refl
no-bufs (g ∷ gs) e = absurd (let wrong : buffer_of g ∷ buffers_of gs ≡ [] = e in cc)

-- there is room for one more lot
pub few-held : (r : Ring) → IsLine (ring_state r) → length r.lots.items < r.field.size
few-held r is =
    let few = few-lots (held_lots r.lots.items) is.are_leases in
    let count = length-map r.lots.items held in
    let some = is.some in
    let within = is.within in
    omega (arith, few, count, some, within)
