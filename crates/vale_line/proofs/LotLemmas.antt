-- What a line's lots and its ring of leases have in common.
use Rattle.std.proofs.Common.{ℕ, zero, suc, Bool, true, false, ◌≡◌, ◌+◌, ◌-◌, ◌<◌, ◌≤◌, List, [], ◌∷◌, ◌++◌, length, take, drop, map, Option, Some, None, inl, inr, slice_set, get_or, if◌then◌else◌, not, ◌||◌, append-nil, refl, sym, ◌∙◌, ap, arith}
use Rattle.std.specs.Prelude.{All, flat_map, IfSome, is_some, slice_get, sum_by, take_while}
use Rattle.std.specs.Prelude.{◌==◌}
use Rattle.std.specs.List.{prefix_len, list_any}
use Rattle.std.specs.Option.{option_map_or}
use Rattle.std.proofs.lemmas.Bool.{cases_Bool, eq-eqb, or_parts, or_from, and_parts, both_ways, eqb-true}
use Rattle.std.proofs.lemmas.List.{append_assoc, map-append, length-append, length-map, length-drop, take-map, drop-map}
use Rattle.std.proofs.lemmas.List.Sums.{sum_by-append, sum_by-cons, sum_by_push, sum_by-take-drop}
use Rattle.std.proofs.lemmas.List.Folds.{list_any_at}
use Rattle.std.proofs.lemmas.List.Elements.{All-push, All-same, All-cons, All-head, All-tail, All-drop}
use Rattle.nm_types.specs.declared.id.LeaseId.{LeaseId}
use Rattle.nm_region.specs.Buffers.{Buffer}
use Rattle.vale_lease.specs.declared.leases.LeaseSlots.{LeaseSlots}
use Rattle.vale_lease.specs.Leases.{AreLeases, is_there, is_lease_out, is_out, out_count, slots_of as lease_slots, behind_done as behind_leases, is_done as is_done_lease, completed as completed_lease}
use Rattle.vale_lease.proofs.LeaseLemmas.{length-le-slots, leases-push, leases-drop, slots-completed, out_there}
use Rattle.vale_lease.proofs.LeaseLemmas.{leases-completed as ring-completed}
use Rattle.vale_line.specs.declared.got.Got.{Got}
use Rattle.vale_line.specs.Gots.{frames_in, last_count, IsCut}
use Rattle.vale_line.proofs.FrameLemmas.{HoldWholeFrames, frames_in-append}
use Rattle.vale_line.proofs.CutLemmas.{cut-whole, cut-append}
use Rattle.vale_line.specs.Lines.{HeldLot, LineState, is_done, gots_of, lease_of, leases_of, slots_of, done_lots, behind_done, ready_gots, ready_frames, frames_of_lot, completed, opened_lot, put_lot, with_lease, given_by_sync, out_of, space_of, first_gots, gots_of_first, is_out_at, slots_out, IsLot, IsLine}

-- the ring has as many slots leased as the lots have
pub leased-slots : (lots : List HeldLot) → lease_slots (leases_of lots) ≡ slots_of lots
leased-slots [] = refl
leased-slots (lot ∷ lots) =
    sum_by-cons (λ (l : LeaseSlots). l.slots) (lease_of lot) (leases_of lots)
    ∙ (ap (λ (n : ℕ). lot.slots + n) (leased-slots lots) ∙ sym (sum_by-cons (λ (l : HeldLot). l.slots) lot lots))

-- a lot is done as its lease is, so both lists are cut at one place
prefix-leases : (lots : List HeldLot) → prefix_len is_done_lease (leases_of lots) ≡ prefix_len is_done lots
prefix-leases [] = refl
prefix-leases (lot ∷ lots) = ap (λ (n : ℕ). if is_done lot then 1 + n else 0) (prefix-leases lots)

pub done-leases : (lots : List HeldLot) → take_while is_done_lease (leases_of lots) ≡ leases_of (done_lots lots)
done-leases lots = ap (λ (n : ℕ). take n (leases_of lots)) (prefix-leases lots) ∙ take-map lease_of (prefix_len is_done lots) lots

pub ready-slots : (lots : List HeldLot) → lease_slots (take_while is_done_lease (leases_of lots)) ≡ slots_of (done_lots lots)
ready-slots lots = ap lease_slots (done-leases lots) ∙ leased-slots (done_lots lots)

pub leases_of-push : (lots : List HeldLot) (lot : HeldLot) → leases_of (lots ++ lot ∷ []) ≡ leases_of lots ++ lease_of lot ∷ []
leases_of-push lots lot = map-append lease_of lots (lot ∷ [])

pub slots_of-push : (lots : List HeldLot) (lot : HeldLot) → slots_of (lots ++ lot ∷ []) ≡ slots_of lots + lot.slots
slots_of-push lots lot = sum_by_push (λ (l : HeldLot). l.slots) lots lot

-- no lot is empty, so there are no more lots than leased slots
pub few-lots : (lots : List HeldLot) → AreLeases (leases_of lots) → length lots ≤ slots_of lots
few-lots lots are =
    let few : length (leases_of lots) ≤ lease_slots (leases_of lots) = length-le-slots (leases_of lots) are in
    let count : length (leases_of lots) ≡ length lots = length-map lots lease_of in
    let slots = leased-slots lots in
    omega (arith, few, count, slots)

pub IsLine-granted : (line : LineState) (id : LeaseId) (count : ℕ) → IsLine line → 1 ≤ count → count ≤ space_of line → is_there id.0 (leases_of line.lots) ≡ false → IsLine (with_lease id count line)
IsLine-granted line id count is some fits fresh =
    let left : length (drop count line.idle) ≡ length line.idle - count = length-drop count line.idle in
    let slots : slots_of (line.lots ++ opened_lot id count ∷ []) ≡ slots_of line.lots + count = slots_of-push line.lots (opened_lot id count) in
    let idle = is.some in
    let within = is.within in
    record {
      few = is.few;
      some = omega (arith, left, fits, idle);
      within = omega (arith, left, slots, within, fits, idle);
      lots = All-push IsLot line.lots (opened_lot id count) is.lots tt;
      are_leases = rw (leases_of-push line.lots (opened_lot id count)) (leases-push (leases_of line.lots) (lease_of (opened_lot id count)) is.are_leases some fresh);
    }

-- the first lot's buffers are given first
pub first-ready : (lots : List HeldLot) (gots : List Got) → first_gots lots ≡ Some gots → ready_gots lots ≡ gots ++ ready_gots (drop 1 lots)
first-ready [] gots is = absurd (let wrong : None ≡ Some gots = is in cc)
first-ready (lot ∷ lots) gots is =
    let done : is_done lot ≡ true = ap is_some is in
    let next : 1 + prefix_len is_done lots ≡ suc (prefix_len is_done lots) = omega arith in
    let cut : done_lots (lot ∷ lots) ≡ lot ∷ done_lots lots = rw (done, next) refl in
    let first : gots_of lot ≡ gots = ap (λ (g : Option (List Got)). option_map_or (λ (gots : List Got). gots) g []) is in
    ap (λ (ls : List HeldLot). flat_map gots_of ls) cut ∙ ap (λ (g : List Got). g ++ ready_gots lots) first

pub first-behind : (lots : List HeldLot) (gots : List Got) → first_gots lots ≡ Some gots → behind_done lots ≡ behind_done (drop 1 lots)
first-behind [] gots is = absurd (let wrong : None ≡ Some gots = is in cc)
first-behind (lot ∷ lots) gots is =
    let done : is_done lot ≡ true = ap is_some is in
    let next : 1 + prefix_len is_done lots ≡ suc (prefix_len is_done lots) = omega arith in
    rw (done, next) refl

pub first-some : (lots : List HeldLot) (gots : List Got) → first_gots lots ≡ Some gots → 1 ≤ length lots
first-some [] gots is = absurd (let wrong : None ≡ Some gots = is in cc)
first-some (lot ∷ lots) gots is = omega arith

pub none-ready : (lots : List HeldLot) → first_gots lots ≡ None → ready_gots lots ≡ []
none-ready [] is = refl
none-ready (lot ∷ lots) is = let other : is_done lot ≡ false = ap is_some is in rw other refl

pub none-behind : (lots : List HeldLot) → first_gots lots ≡ None → behind_done lots ≡ lots
none-behind [] is = refl
none-behind (lot ∷ lots) is = let other : is_done lot ≡ false = ap is_some is in rw other refl

-- the buffers of a first lot that is done
pub first-of : (lots : List HeldLot) → is_some (first_gots lots) ≡ true → first_gots lots ≡ Some (gots_of_first lots)
first-of lots done = by (first_gots lots) done
  where
    by : (g : Option (List Got)) → is_some g ≡ true → g ≡ Some (option_map_or (λ (gots : List Got). gots) g [])
    by None done = absurd (let wrong : false ≡ true = done in cc)
    by (Some gots) done = refl

pub first-none : (lots : List HeldLot) → is_some (first_gots lots) ≡ false → first_gots lots ≡ None
first-none lots other = by (first_gots lots) other
  where
    by : (g : Option (List Got)) → is_some g ≡ false → g ≡ None
    by None other = refl
    by (Some gots) other = absurd (let wrong : true ≡ false = other in cc)

-- what is ready once the buffers of the first lot were given
pub record Given (lots : List HeldLot) : Type 0 where
  pub ready : ready_gots lots ≡ gots_of_first lots ++ ready_gots (drop 1 lots)
  pub behind : behind_done lots ≡ behind_done (drop 1 lots)
  pub some : 1 ≤ length lots
  pub count : length (ready_gots lots) ≡ length (gots_of_first lots) + length (ready_gots (drop 1 lots))

pub given : (lots : List HeldLot) → is_some (first_gots lots) ≡ true → Given lots
given lots done =
    let first = first-of lots done in
    let ready = first-ready lots (gots_of_first lots) first in
    record {
      ready = ready;
      behind = first-behind lots (gots_of_first lots) first;
      some = first-some lots (gots_of_first lots) first;
      count = ap length ready ∙ length-append (gots_of_first lots) (ready_gots (drop 1 lots));
    }

-- what is then behind others that were given before, and what is left of the line
pub record FirstGiven {X : Type 0} (f : List Got → List X) (line now : LineState) (had all : List X) : Type 0 where
  pub moved : all ++ f (ready_gots now.lots) ≡ had ++ f (ready_gots line.lots)
  pub rest : record now { lots = behind_done now.lots } ≡ record line { lots = behind_done line.lots }
  pub total : length all + length (ready_gots now.lots) ≡ length had + length (ready_gots line.lots)
  pub few : length (ready_gots now.lots) ≤ length (ready_gots line.lots)
  pub lasts : sum_by last_count (gots_of_first line.lots) + sum_by last_count (ready_gots now.lots) ≡ sum_by last_count (ready_gots line.lots)

pub first-given : {X : Type 0} (f : List Got → List X) → ((gs hs : List Got) → f (gs ++ hs) ≡ f gs ++ f hs) → ((gs : List Got) → length (f gs) ≡ length gs) → (line now : LineState) (had all : List X) → is_some (first_gots line.lots) ≡ true
    → now ≡ record line { lots = drop 1 line.lots } → all ≡ had ++ f (gots_of_first line.lots) → FirstGiven f line now had all
first-given {X = X} f parts long line now had all done is came =
    let step = given line.lots done in
    let first = gots_of_first line.lots in
    let rest = ready_gots (drop 1 line.lots) in
    let left : ready_gots now.lots ≡ rest = ap (λ (l : LineState). ready_gots l.lots) is in
    let count = step.count in
    let less = ap length left in
    let more = ap length came ∙ length-append had (f first) in
    let plain = long first in
    let ends = ap (sum_by last_count) left in
    let lasts = ap (sum_by last_count) step.ready ∙ sum_by-append last_count first rest in
    record {
      moved =
          ap (λ (xs : List X). xs ++ f (ready_gots now.lots)) came
          ∙ (ap (λ (gs : List Got). (had ++ f first) ++ f gs) left
          ∙ (append_assoc had (f first) (f rest) ∙ ap (λ (xs : List X). had ++ xs) (sym (parts first rest) ∙ ap f (sym step.ready))));
      rest = ap (λ (l : LineState). record l { lots = behind_done l.lots }) is ∙ ap (λ (ls : List HeldLot). record line { lots = ls }) (sym step.behind);
      total = omega (arith, count, less, more, plain);
      few = omega (arith, count, less);
      lasts = omega (arith, ends, lasts);
    }

-- where one lot is done, what is ready is in it
pub record OneDone (lots : List HeldLot) : Type 0 where
  pub first : is_some (first_gots lots) ≡ true
  pub ready : ready_gots lots ≡ gots_of_first lots
  pub behind : behind_done lots ≡ drop 1 lots

pub done-cons : (lot : HeldLot) (lots : List HeldLot) → is_done lot ≡ true → done_lots (lot ∷ lots) ≡ lot ∷ done_lots lots
done-cons lot lots done = let next : 1 + prefix_len is_done lots ≡ suc (prefix_len is_done lots) = omega arith in rw (done, next) refl

pub one-done : (lots : List HeldLot) → length (done_lots lots) ≡ 1 → OneDone lots
one-done [] is = absurd (omega (arith, is))
one-done (lot ∷ lots) is = elim (cases_Bool (is_done lot)) [
  | inl here ↦
      let count = ap length (done-cons lot lots here) in
      let none : length (done_lots lots) ≡ 0 = omega (arith, count, is) in
      let step = given (lot ∷ lots) here in
      let other = none-done lots none in
      record {
        first = here;
        ready = step.ready ∙ (ap (λ (gs : List Got). gots_of_first (lot ∷ lots) ++ gs) (none-ready lots other) ∙ append-nil (gots_of_first (lot ∷ lots)));
        behind = step.behind ∙ none-behind lots other;
      }
  | inr other ↦ absurd (let none : done_lots (lot ∷ lots) ≡ [] = rw other refl in let zero_is = ap length none in omega (arith, zero_is, is))
]
  where
    none-done : (lots : List HeldLot) → length (done_lots lots) ≡ 0 → first_gots lots ≡ None
    none-done [] none = refl
    none-done (l ∷ ls) none = elim (cases_Bool (is_done l)) [
      | inl here ↦ absurd (let count = ap length (done-cons l ls here) in omega (arith, count, none))
      | inr other ↦ first-none (l ∷ ls) other
    ]

-- the lots that are ready have as many buffers as slots
length-first : (lot : HeldLot) (gots : List Got) → lot.gots ≡ Some gots → IsLot lot → length gots ≡ lot.slots
length-first lot gots is full = (rw is at full).0

pub length-ready : (lots : List HeldLot) → All IsLot lots → length (ready_gots lots) ≡ slots_of (done_lots lots)
length-ready [] full = refl
length-ready (lot ∷ lots) full = length-by lot.gots (length-ready lots (All-tail IsLot lot lots full)) refl
  where
    length-by : (g : Option (List Got)) → length (ready_gots lots) ≡ slots_of (done_lots lots) → lot.gots ≡ g → length (ready_gots (lot ∷ lots)) ≡ slots_of (done_lots (lot ∷ lots))
    length-by None rest is = let other : is_done lot ≡ false = ap is_some is in rw other refl
    length-by (Some gots) rest is =
        let done : is_done lot ≡ true = ap is_some is in
        let next : 1 + prefix_len is_done lots ≡ suc (prefix_len is_done lots) = omega arith in
        let cut : done_lots (lot ∷ lots) ≡ lot ∷ done_lots lots = rw (done, next) refl in
        let slots : slots_of (lot ∷ done_lots lots) ≡ lot.slots + slots_of (done_lots lots) = sum_by-cons (λ (l : HeldLot). l.slots) lot (done_lots lots) in
        let given : length (ready_gots (lot ∷ lots)) ≡ length gots + length (ready_gots lots) = ap length (first-ready (lot ∷ lots) gots is) ∙ length-append gots (ready_gots lots) in
        let own : length gots ≡ lot.slots = length-first lot gots is (All-head IsLot lot lots full) in
        let total : slots_of (done_lots (lot ∷ lots)) ≡ lot.slots + slots_of (done_lots lots) = ap slots_of cut ∙ slots in
        omega (arith, total, rest, given, own)

pub ready-count : (lots : List HeldLot) → All IsLot lots → lease_slots (take_while is_done_lease (leases_of lots)) ≡ length (ready_gots lots)
ready-count lots full = ready-slots lots ∙ sym (length-ready lots full)

-- what is behind the done lots is behind the done leases
pub behind-leases : (lots : List HeldLot) → behind_leases (leases_of lots) ≡ leases_of (behind_done lots)
behind-leases lots = ap (λ (n : ℕ). drop n (leases_of lots)) (prefix-leases lots) ∙ drop-map lease_of (prefix_len is_done lots) lots

pub slots-parts : (lots : List HeldLot) → slots_of (done_lots lots) + slots_of (behind_done lots) ≡ slots_of lots
slots-parts lots = sum_by-take-drop (λ (l : HeldLot). l.slots) lots (prefix_len is_done lots)

pub IsLine-synced : (line : LineState) (back : List Buffer) → IsLine line → length back ≤ out_of line → IsLine (given_by_sync back line)
IsLine-synced line back is few =
    let all : length (line.idle ++ back) ≡ length line.idle + length back = length-append line.idle back in
    let parts = slots-parts line.lots in
    let within = is.within in
    let some = is.some in
    record {
      few = is.few;
      some = omega (arith, all, some);
      within = omega (arith, all, parts, within, few);
      lots = All-drop IsLot (prefix_len is_done line.lots) line.lots is.lots;
      are_leases = rw (← behind-leases line.lots) (leases-drop (prefix_len is_done_lease (leases_of line.lots)) (leases_of line.lots) is.are_leases);
    }

-- a lot of this id is there, and its lease is out
pub slots-out : (id n : ℕ) (lots : List HeldLot) → slots_out id lots ≡ Some n → list_any (is_out_at id) lots ≡ true
slots-out id n [] is = absurd (let wrong : None ≡ Some n = is in cc)
slots-out id n (lot ∷ lots) is = elim (cases_Bool (is_out_at id lot)) [
  | inl here ↦ rw here refl
  | inr other ↦ (let rest : slots_out id lots ≡ Some n = rw other at is in rw other (slots-out id n lots rest))
]

pub lease-out : (id : ℕ) (lots : List HeldLot) → list_any (is_out_at id) lots ≡ is_lease_out id (leases_of lots)
lease-out id [] = refl
lease-out id (lot ∷ lots) = ap (λ (b : Bool). is_out_at id lot || b) (lease-out id lots)

-- completing a lot changes its lease alone
lease-completed : (id : ℕ) (gots : List Got) (lot : HeldLot) → lease_of (completed id gots lot) ≡ completed_lease id (lease_of lot)
lease-completed id gots lot = elim (cases_Bool (lot.id.0 == id)) [ inl here ↦ rw here refl | inr other ↦ rw other refl ]

pub leases-completed : (id : ℕ) (gots : List Got) (lots : List HeldLot) → leases_of (map (completed id gots) lots) ≡ map (completed_lease id) (leases_of lots)
leases-completed id gots [] = refl
leases-completed id gots (lot ∷ lots) =
    let first = lease-completed id gots lot in
    let rest = leases-completed id gots lots in
    cc

pub completed-none : (id : ℕ) (gots : List Got) (lots : List HeldLot) → is_there id (leases_of lots) ≡ false → map (completed id gots) lots ≡ lots
completed-none id gots [] none = refl
completed-none id gots (lot ∷ lots) none =
    let parts = or_parts (lot.id.0 == id) (is_there id (leases_of lots)) none in
    let first : completed id gots lot ≡ lot = rw (parts.0) refl in
    let rest = completed-none id gots lots parts.1 in
    cc

abbrev filled_with : List Got → HeldLot → HeldLot
filled_with gots lot = record lot { gots = Some gots }

completed-same : (id : ℕ) (gots : List Got) (lot : HeldLot) → (lot.id.0 == id) ≡ true → completed id gots lot ≡ filled_with gots lot
completed-same id gots lot same = rw same refl

completed-other : (id : ℕ) (gots : List Got) (lot : HeldLot) → (lot.id.0 == id) ≡ false → completed id gots lot ≡ lot
completed-other id gots lot other = rw other refl

-- what `lot.id.0 == id` has to do with the lots behind it
none-behind-it : (id : ℕ) (lot : HeldLot) (lots : List HeldLot) → AreLeases (leases_of (lot ∷ lots)) → (lot.id.0 == id) ≡ true → is_there id (leases_of lots) ≡ false
none-behind-it id lot lots are here =
    let is_id : lot.id.0 ≡ id = eqb-true lot.id.0 id here in
    rw is_id at (are.1.0)

pub set-completed-lot : (lots : List HeldLot) (id at : ℕ) (gots : List Got) (d : HeldLot) → AreLeases (leases_of lots) → at < length lots → is_out_at id (get_or lots at d) ≡ true
    → slice_set lots at (filled_with gots (get_or lots at d)) ≡ map (completed id gots) lots
set-completed-lot [] id at gots d are within out = absurd (omega arith)
set-completed-lot (lot ∷ lots) id zero gots d are within out =
    let same : (lot.id.0 == id) ≡ true = (and_parts (lot.id.0 == id) (not (is_done lot)) out).0 in
    let rest = completed-none id gots lots (none-behind-it id lot lots are same) in
    let first = completed-same id gots lot same in
    cc
set-completed-lot (lot ∷ lots) id (suc at) gots d are within out =
    let rest = set-completed-lot lots id at gots d are.1.1 (omega arith) out in
    let there : list_any (is_out_at id) lots ≡ true = list_any_at (is_out_at id) lots at d (omega arith) out in
    let known : is_there id (leases_of lots) ≡ true = out_there id (leases_of lots) (sym (lease-out id lots) ∙ there) in
    let first : completed id gots lot ≡ lot = elim (cases_Bool (lot.id.0 == id)) [
      | inl here ↦ absurd (both_ways (is_there id (leases_of lots)) (none-behind-it id lot lots are here) known)
      | inr other ↦ completed-other id gots lot other
    ] in
    cc

-- a lot whose lease is out has no buffers
not-some : (g : Option (List Got)) → not (is_some g) ≡ true → g ≡ None
not-some None is = refl
not-some (Some gots) is = absurd (let wrong : false ≡ true = is in cc)

pub none-of-out : (id : ℕ) (lot : HeldLot) → is_out_at id lot ≡ true → lot.gots ≡ None
none-of-out id lot out = not-some lot.gots ((and_parts (lot.id.0 == id) (not (is_done lot)) out).1)

-- the completed lot has as many buffers as slots
pub lots-completed : (id : ℕ) (gots : List Got) (lots : List HeldLot) → IsCut gots → AreLeases (leases_of lots) → slots_out id lots ≡ Some (length gots)
    → All IsLot lots → All IsLot (map (completed id gots) lots)
lots-completed id gots [] frames are is full = full
lots-completed id gots (lot ∷ lots) frames are is full = elim (cases_Bool (is_out_at id lot)) [
  | inl out ↦
      let same : (lot.id.0 == id) ≡ true = (and_parts (lot.id.0 == id) (not (is_done lot)) out).0 in
      let rest = completed-none id gots lots (none-behind-it id lot lots are same) in
      let first = completed-same id gots lot same in
      let told : Some lot.slots ≡ Some (length gots) = rw out at is in
      let slots : length gots ≡ lot.slots = cc in
      let own : IsLot (filled_with gots lot) = (slots, frames) in
      let whole : map (completed id gots) (lot ∷ lots) ≡ filled_with gots lot ∷ lots = cc in
      All-same IsLot (map (completed id gots) (lot ∷ lots)) (filled_with gots lot ∷ lots) whole (All-cons IsLot (filled_with gots lot) lots own (All-tail IsLot lot lots full))
  | inr not_out ↦
      let later : slots_out id lots ≡ Some (length gots) = rw not_out at is in
      let there = slots-out id (length gots) lots later in
      let known : is_there id (leases_of lots) ≡ true = out_there id (leases_of lots) (sym (lease-out id lots) ∙ there) in
      let first : completed id gots lot ≡ lot = elim (cases_Bool (lot.id.0 == id)) [
        | inl here ↦ absurd (both_ways (is_there id (leases_of lots)) (none-behind-it id lot lots are here) known)
        | inr other ↦ completed-other id gots lot other
      ] in
      let rest = lots-completed id gots lots frames are.1.1 later (All-tail IsLot lot lots full) in
      let whole : map (completed id gots) (lot ∷ lots) ≡ lot ∷ map (completed id gots) lots = cc in
      All-same IsLot (map (completed id gots) (lot ∷ lots)) (lot ∷ map (completed id gots) lots) whole (All-cons IsLot lot (map (completed id gots) lots) (All-head IsLot lot lots full) rest)
]

pub IsLine-done : (line : LineState) (id : ℕ) (gots : List Got) → IsCut gots → IsLine line → slots_out id line.lots ≡ Some (length gots) → IsLine (record line { lots = map (completed id gots) line.lots })
IsLine-done line id gots frames is out =
    let leases = leases-completed id gots line.lots in
    let slots : slots_of (map (completed id gots) line.lots) ≡ slots_of line.lots =
    sym (leased-slots (map (completed id gots) line.lots)) ∙ (ap lease_slots leases ∙ (slots-completed id (leases_of line.lots) ∙ leased-slots line.lots)) in
    let within = is.within in
    record {
      few = is.few;
      some = is.some;
      within = omega (arith, slots, within);
      lots = lots-completed id gots line.lots frames is.are_leases out is.lots;
      are_leases = rw leases (ring-completed id (leases_of line.lots) is.are_leases);
    }

pub IsLine-put : (line : LineState) (id : LeaseId) (gots : List Got) → IsCut gots → IsLine line → 1 ≤ length gots → length gots ≤ out_of line → is_there id.0 (leases_of line.lots) ≡ false
    → IsLine (record line { lots = line.lots ++ put_lot id gots ∷ [] })
IsLine-put line id gots frames is some fits fresh =
    let slots : slots_of (line.lots ++ put_lot id gots ∷ []) ≡ slots_of line.lots + length gots = slots_of-push line.lots (put_lot id gots) in
    let idle = is.some in
    let within = is.within in
    record {
      few = is.few;
      some = is.some;
      within = omega (arith, slots, within, fits, idle);
      lots = All-push IsLot line.lots (put_lot id gots) is.lots (refl, frames);
      are_leases = rw (leases_of-push line.lots (put_lot id gots)) (leases-push (leases_of line.lots) (lease_of (put_lot id gots)) is.are_leases some fresh);
    }

-- a lot that is opened and done at once
pub opened-done : (id : LeaseId) (gots : List Got) (lots : List HeldLot) → is_there id.0 (leases_of lots) ≡ false → map (completed id.0 gots) (lots ++ opened_lot id (length gots) ∷ []) ≡ lots ++ put_lot id gots ∷ []
opened-done id gots lots fresh =
    let first : completed id.0 gots (opened_lot id (length gots)) ≡ put_lot id gots = completed-same id.0 gots (opened_lot id (length gots)) (eq-eqb id.0 id.0 refl) in
    map-append (completed id.0 gots) lots (opened_lot id (length gots) ∷ [])
    ∙ (ap (λ (ls : List HeldLot). ls ++ completed id.0 gots (opened_lot id (length gots)) ∷ []) (completed-none id.0 gots lots fresh)
    ∙ ap (λ (l : HeldLot). lots ++ l ∷ []) first)

-- the slots of the lot that is out, found at a place
pub slots-at : (lots : List HeldLot) (id n at : ℕ) (d : HeldLot) → AreLeases (leases_of lots) → at < length lots → is_out_at id (get_or lots at d) ≡ true → slots_out id lots ≡ Some n → (get_or lots at d).slots ≡ n
slots-at [] id n at d are within out is = absurd (omega (arith, within))
slots-at (lot ∷ lots) id n zero d are within out is = let told : Some lot.slots ≡ Some n = rw out at is in cc
slots-at (lot ∷ lots) id n (suc at) d are within out is =
    let there : list_any (is_out_at id) lots ≡ true = list_any_at (is_out_at id) lots at d (omega arith) out in
    let known : is_there id (leases_of lots) ≡ true = out_there id (leases_of lots) (sym (lease-out id lots) ∙ there) in
    elim (cases_Bool (is_out_at id lot)) [
      | inl here ↦ absurd (both_ways (is_there id (leases_of lots)) (none-behind-it id lot lots are (and_parts (lot.id.0 == id) (not (is_done lot)) here).0) known)
      | inr other ↦ (let later : slots_out id lots ≡ Some n = rw other at is in slots-at lots id n at d are.1.1 (omega (arith, within)) out later)
    ]

-- a lot found at a place
pub lot_found : (id : ℕ) (lots : List HeldLot) (at : ℕ) (d : HeldLot) → at < length lots
    → IfSome (slice_get lots at) (λ (lot : HeldLot). is_out_at id lot ≡ true) → is_out_at id (get_or lots at d) ≡ true
lot_found id [] at d within found = absurd (omega (arith, within))
lot_found id (lot ∷ lots) zero d within found = found
lot_found id (lot ∷ lots) (suc at) d within found = lot_found id lots at d (omega (arith, within)) found

abbrev IsNotOut : ℕ → HeldLot → Type 0
IsNotOut id lot = is_out_at id lot ≡ false

pub none_out : (id : ℕ) (lots : List HeldLot) → All (λ (lot : HeldLot). is_out_at id lot ≡ false) lots → list_any (is_out_at id) lots ≡ false
none_out id [] none = refl
none_out id (lot ∷ lots) none =
    or_from (is_out_at id lot) (list_any (is_out_at id) lots) (All-head (IsNotOut id) lot lots none) (none_out id lots (All-tail (IsNotOut id) lot lots none))

-- a lot that is done has whole frames, which are cut
pub cut-lot : (lot : HeldLot) → IsLot lot → IsCut (gots_of lot)
cut-lot lot full = cut-by lot.gots refl
  where
    cut-by : (g : Option (List Got)) → lot.gots ≡ g → IsCut (gots_of lot)
    cut-by None is = rw is refl
    cut-by (Some gots) is = rw is (rw is at full).1

pub whole-lot : (lot : HeldLot) → IsLot lot → HoldWholeFrames (gots_of lot)
whole-lot lot full = cut-whole (gots_of lot) (cut-lot lot full)

-- and so are the frames of all that are ready
pub ready-cut : (lots : List HeldLot) → All IsLot lots → IsCut (ready_gots lots)
ready-cut [] full = refl
ready-cut (lot ∷ lots) full = elim (cases_Bool (is_done lot)) [
  | inl here ↦
      let next : 1 + prefix_len is_done lots ≡ suc (prefix_len is_done lots) = omega arith in
      let cut : done_lots (lot ∷ lots) ≡ lot ∷ done_lots lots = rw (here, next) refl in
      let ready : ready_gots (lot ∷ lots) ≡ gots_of lot ++ ready_gots lots = ap (λ (ls : List HeldLot). flat_map gots_of ls) cut in
      let rest = ready-cut lots (All-tail IsLot lot lots full) in
      rw ready (cut-append (gots_of lot) (ready_gots lots) (cut-lot lot (All-head IsLot lot lots full)) rest)
  | inr other ↦ rw other refl
]

-- the frames of the done lots, one lot behind the other
pub ready-frames : (lots : List HeldLot) → All IsLot lots → frames_in (ready_gots lots) ≡ ready_frames lots
ready-frames [] full = refl
ready-frames (lot ∷ lots) full = elim (cases_Bool (is_done lot)) [
  | inl here ↦
      let next : 1 + prefix_len is_done lots ≡ suc (prefix_len is_done lots) = omega arith in
      let cut : done_lots (lot ∷ lots) ≡ lot ∷ done_lots lots = rw (here, next) refl in
      let rest = ready-frames lots (All-tail IsLot lot lots full) in
      let own = frames_in-append (gots_of lot) (ready_gots lots) (whole-lot lot (All-head IsLot lot lots full)) in
      ap (λ (ls : List HeldLot). frames_in (flat_map gots_of ls)) cut
      ∙ (own ∙ (ap (λ (fs : List (List ℕ)). frames_of_lot lot ++ fs) rest ∙ sym (ap (λ (ls : List HeldLot). flat_map frames_of_lot ls) cut)))
  | inr other ↦ rw other refl
]

abbrev one_out : LeaseSlots → ℕ
one_out lease = if is_out lease then 1 else 0

-- with no lease out, all lots are done
pub all-done : (lots : List HeldLot) → out_count (leases_of lots) ≡ 0 → (behind_done lots ≡ []) × (done_lots lots ≡ lots)
all-done [] none = (refl, refl)
all-done (lot ∷ lots) none = elim (cases_Bool (is_done lot)) [
  | inl here ↦
      let one : 1 + prefix_len is_done lots ≡ suc (prefix_len is_done lots) = omega arith in
      let fewer : out_count (leases_of lots) ≡ 0 = rw here at none in
      let rest = all-done lots fewer in
      let cut : done_lots (lot ∷ lots) ≡ lot ∷ done_lots lots = rw (here, one) refl in
      let cut2 : behind_done (lot ∷ lots) ≡ behind_done lots = rw (here, one) refl in
      (cut2 ∙ rest.0, cut ∙ ap (λ (ls : List HeldLot). lot ∷ ls) rest.1)
  | inr other ↦
      let whole : out_count (leases_of (lot ∷ lots)) ≡ one_out (lease_of lot) + out_count (leases_of lots) = sum_by-cons one_out (lease_of lot) (leases_of lots) in
      let one : one_out (lease_of lot) ≡ 1 = rw other refl in
      absurd (omega (arith, whole, one, none))
]

pub ruleset lots = (leased-slots, done-leases, ready-slots, leases_of-push, slots_of-push, few-lots, IsLine-granted, first-ready, first-behind, first-some, none-ready, none-behind, length-ready, ready-count, slots-out, lease-out, all-done, ready-frames, ready-cut)
