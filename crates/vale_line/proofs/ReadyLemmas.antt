-- The frames that a sync would give: how many, and how large they are.
use Rattle.std.proofs.Common.{ℕ, zero, suc, false, ◌≡◌, ◌+◌, ◌<◌, ◌≤◌, List, [], ◌∷◌, ◌++◌, length, drop, map, Option, Some, None, get_or, inl, inr, refl, sym, ◌∙◌, ap, arith}
use Rattle.std.specs.Prelude.{All, flat_map, is_some, option_map, sum_by}
use Rattle.std.proofs.lemmas.Bool.{cases_Bool}
use Rattle.std.proofs.lemmas.List.{append-nil, length-append, length-map, map-append, drop_all}
use Rattle.std.proofs.lemmas.List.Elements.{All-head, All-tail}
use Rattle.std.proofs.lemmas.List.Sums.{sum_by-append, sum_by-cons}
use Rattle.nm_frag.specs.Parts.{slots_of_bytes}
use Rattle.nm_types.proofs.Lists.{drop-get_or}
use Rattle.vale_line.specs.declared.got.Got.{Got}
use Rattle.vale_line.specs.declared.lot.Lot.{Lot}
use Rattle.vale_line.specs.Gots.{last_count}
use Rattle.vale_line.specs.Leased.{sizes_in}
use Rattle.vale_line.specs.Lines.{HeldLot, is_done, gots_of, ready_gots, ready_frames, ready_sizes, frames_of_lot, sizes_of_lot, IsLot}
use Rattle.vale_line.specs.Rings.{held, held_lots}
use Rattle.vale_line.proofs.FrameLemmas.{count-frames, few-lasts}
use Rattle.vale_line.proofs.CutLemmas.{cut-sizes}
use Rattle.vale_line.proofs.Filling.{sizes-skip}
use Rattle.vale_line.proofs.LotLemmas.{done-cons, first-ready, none-ready, ready-frames, cut-lot}

-- one buffer more is counted
pub lasts-more : (gots : List Got) (i : ℕ) (d : Got) → i < length gots → sum_by last_count (drop i gots) ≡ last_count (get_or gots i d) + sum_by last_count (drop (i + 1) gots)
lasts-more gots i d within = ap (sum_by last_count) (drop-get_or gots i d within) ∙ sum_by-cons last_count (get_or gots i d) (drop (i + 1) gots)

-- one frame more is told
pub sizes-more : (gots : List Got) (at : ℕ) (d : Got) → at < length gots → sizes_in (drop at gots) ≡ suc (get_or gots at d).rest ∷ sizes_in (drop (at + suc (get_or gots at d).rest) gots)
sizes-more [] at d within = absurd (omega (arith, within))
sizes-more (g ∷ gs) zero d within = let start : 0 + suc g.rest ≡ suc g.rest = omega arith in rw start (ap (λ (ns : List ℕ). suc g.rest ∷ ns) (sizes-skip gs g.rest))
sizes-more (g ∷ gs) (suc at) d within =
    let n = suc (get_or gs at d).rest in
    let next : suc at + n ≡ suc (at + n) = omega arith in
    rw next (sizes-more gs at d (omega (arith, within)))

pub sizes-end : (gots : List Got) (at : ℕ) → length gots ≤ at → sizes_in (drop at gots) ≡ []
sizes-end gots at past = ap sizes_in (drop_all at gots past)

pub ruleset sizes = (sizes-end, append-nil)

-- the lots from a place on
pub held-at : (lots : List Lot) (i : ℕ) (d : Lot) → i < length lots → drop i (held_lots lots) ≡ held (get_or lots i d) ∷ drop (i + 1) (held_lots lots)
held-at [] i d within = absurd (omega (arith, within))
held-at (x ∷ xs) zero d within = refl
held-at (x ∷ xs) (suc i) d within = let next : suc i + 1 ≡ suc (i + 1) = omega arith in rw next (held-at xs i d (omega (arith, within)))

-- what a lot was found to hold
pub some-of : {X Y : Type 0} (f : X → Y) (o : Option X) (x : X) (y : Option Y) → option_map f o ≡ y → o ≡ Some x → y ≡ Some (f x)
some-of f o x y e is = sym e ∙ ap (option_map f) is

pub none-of : {X Y : Type 0} (f : X → Y) (o : Option X) (y : Option Y) → option_map f o ≡ y → o ≡ None → y ≡ None
none-of f o y e is = sym e ∙ ap (option_map f) is

-- a done lot more
pub record ReadyAt (lots : List Lot) (i : ℕ) (gots : List Got) : Type 0 where
  pub gots_are : ready_gots (drop i (held_lots lots)) ≡ gots ++ ready_gots (drop (i + 1) (held_lots lots))
  pub count : length (ready_gots (drop i (held_lots lots))) ≡ length gots + length (ready_gots (drop (i + 1) (held_lots lots)))
  pub sizes : ready_sizes (drop i (held_lots lots)) ≡ sizes_in gots ++ ready_sizes (drop (i + 1) (held_lots lots))
  pub sizes_count : length (ready_sizes (drop i (held_lots lots))) ≡ length (sizes_in gots) + length (ready_sizes (drop (i + 1) (held_lots lots)))
  pub lasts : sum_by last_count (ready_gots (drop i (held_lots lots))) ≡ sum_by last_count gots + sum_by last_count (ready_gots (drop (i + 1) (held_lots lots)))

ready-cons : (lot : HeldLot) (lots : List HeldLot) (gots : List Got) → lot.gots ≡ Some gots → ready_sizes (lot ∷ lots) ≡ sizes_in gots ++ ready_sizes lots
ready-cons lot lots gots is =
    let own : gots_of lot ≡ gots = rw is refl in
    let cut = done-cons lot lots (ap is_some is) in
    ap (λ (ls : List HeldLot). flat_map sizes_of_lot ls) cut ∙ ap (λ (gs : List Got). sizes_in gs ++ ready_sizes lots) own

pub ready-at : (lots : List Lot) (i : ℕ) (d : Lot) (gots : List Got) → i < length lots → (held (get_or lots i d)).gots ≡ Some gots → ReadyAt lots i gots
ready-at lots i d gots within is =
    let lot = held (get_or lots i d) in
    let rest = drop (i + 1) (held_lots lots) in
    let cut = held-at lots i d within in
    let ready : ready_gots (drop i (held_lots lots)) ≡ gots ++ ready_gots rest = ap ready_gots cut ∙ first-ready (lot ∷ rest) gots is in
    let sizes = ap ready_sizes cut ∙ ready-cons lot rest gots is in
    record {
      gots_are = ready;
      count = ap length ready ∙ length-append gots (ready_gots rest);
      sizes = sizes;
      sizes_count = ap (λ (ns : List ℕ). length ns) sizes ∙ length-append (sizes_in gots) (ready_sizes rest);
      lasts = ap (sum_by last_count) ready ∙ sum_by-append last_count gots (ready_gots rest);
    }

-- and one that is not done
pub none-at : (lots : List Lot) (i : ℕ) (d : Lot) → i < length lots → (held (get_or lots i d)).gots ≡ None → (ready_gots (drop i (held_lots lots)) ≡ []) × (ready_sizes (drop i (held_lots lots)) ≡ [])
none-at lots i d within is =
    let lot = held (get_or lots i d) in
    let rest = drop (i + 1) (held_lots lots) in
    let cut = held-at lots i d within in
    let other : is_done lot ≡ false = ap is_some is in
    (ap ready_gots cut ∙ none-ready (lot ∷ rest) is, ap ready_sizes cut ∙ rw other refl)

-- the lot that a loop found at a place
pub found-at : (lots : List Lot) (i len : ℕ) (lot : Lot) (gots : List Got) → i < len → len ≡ length lots → lot ≡ get_or lots i lot → (held lot).gots ≡ Some gots → ReadyAt lots i gots
found-at lots i len lot gots test count is found = ready-at lots i lot gots (omega (arith, test, count)) (ap (λ (l : Lot). (held l).gots) (sym is) ∙ found)

pub not-found-at : (lots : List Lot) (i len : ℕ) (lot : Lot) → i < len → len ≡ length lots → lot ≡ get_or lots i lot → (held lot).gots ≡ None
    → (ready_gots (drop i (held_lots lots)) ≡ []) × (ready_sizes (drop i (held_lots lots)) ≡ [])
not-found-at lots i len lot test count is found = none-at lots i lot (omega (arith, test, count)) (ap (λ (l : Lot). (held l).gots) (sym is) ∙ found)

pub ready-end : (lots : List Lot) → (ready_gots (drop (length lots) (held_lots lots)) ≡ []) × (ready_sizes (drop (length lots) (held_lots lots)) ≡ [])
ready-end lots =
    let none : drop (length lots) (held_lots lots) ≡ [] = drop_all (length lots) (held_lots lots) (let long = length-map lots held in omega (arith, long)) in
    (ap ready_gots none, ap ready_sizes none)

pub ruleset ready = (few-lasts)

-- the slots that the buffers tell are those of the frames
pub ready-sizes : (lots : List HeldLot) → All IsLot lots → ready_sizes lots ≡ map slots_of_bytes (ready_frames lots)
ready-sizes [] full = refl
ready-sizes (lot ∷ lots) full = elim (cases_Bool (is_done lot)) [
  | inl here ↦
      let cut = done-cons lot lots here in
      let rest = ready-sizes lots (All-tail IsLot lot lots full) in
      let own = cut-sizes (gots_of lot) (cut-lot lot (All-head IsLot lot lots full)) in
      ap (λ (ls : List HeldLot). flat_map sizes_of_lot ls) cut
      ∙ (ap (λ (ns : List ℕ). ns ++ ready_sizes lots) own
      ∙ (ap (λ (ns : List ℕ). map slots_of_bytes (frames_of_lot lot) ++ ns) rest
      ∙ (sym (map-append slots_of_bytes (frames_of_lot lot) (ready_frames lots)) ∙ ap (λ (ls : List HeldLot). map slots_of_bytes (flat_map frames_of_lot ls)) (sym cut))))
  | inr other ↦ rw other refl
]

pub ready-count-frames : (lots : List HeldLot) → All IsLot lots → sum_by last_count (ready_gots lots) ≡ length (ready_frames lots)
ready-count-frames lots full = sym (count-frames [] (ready_gots lots)) ∙ ap (λ (fs : List (List ℕ)). length fs) (ready-frames lots full)

pub ready-count-sizes : (lots : List HeldLot) → All IsLot lots → length (ready_sizes lots) ≡ length (ready_frames lots)
ready-count-sizes lots full = ap (λ (ns : List ℕ). length ns) (ready-sizes lots full) ∙ length-map (ready_frames lots) slots_of_bytes

pub ruleset line = (ready-sizes, ready-count-frames, ready-count-sizes)
