-- Buffers that were taken from the front and are given back one by one.
use Rattle.std.proofs.Common.{ℕ, Bool, false, cond, ◌≡◌, ◌≤◌, ◌<◌, ◌+◌, List, [], ◌∷◌, ◌++◌, take, drop, flat_map, refl, sym, ◌∙◌, ap, subst, arith, nat_lt}
use Rattle.std.specs.List.{AllByRecursion as Each}
use Rattle.std.proofs.lemmas.Bool.{ltb-true, lt-ltb, false_from_ne_true}
use Rattle.std.proofs.lemmas.List.{append_assoc, take-append-drop, map-append}
use Rattle.nm_types.proofs.Lists.{each-back}
use Rattle.nm_region.specs.Buffers.{Buffer, indices_of}
use Rattle.nm_pool.specs.Free.{PoolState, with_buffer}
use Rattle.vale_entry.specs.Holdings.{buffers_at_port, buffers_held}
use Rattle.vale_entry.specs.Legal.{holdings_of}
use Rattle.vale_entry.specs.Laws.{Rise}
use Rattle.vale_entry.proofs.Counting.{count_of, count_of-append}
use Rattle.vale_entry.proofs.Each.{each-weaker, each-append, each-unmap}
use Rattle.vale_entry.proofs.Rising.{rise-above}
use Rattle.vale_entry.proofs.HistoryLaws.{free-rises, buffers-parted}
use Rattle.vale_parts.specs.FreeBuffers.{pool_less, pool_with, pool_with_all}
use Rattle.vale_parts.specs.FreeLaws.{TakenIsGivenBack}
use Rattle.vale_parts.proofs.FreeKept.{can_give, with_all_size}

-- a buffer goes behind the lower ones and before the higher ones
place_by : (b : Buffer) (front rest : List Buffer) → Each (λ (f : Buffer). f.index < b.index) front → Each (λ (r : Buffer). b.index < r.index) rest → with_buffer b (front ++ rest) ≡ front ++ b ∷ rest
place_by b [] [] low high = refl
place_by b [] (r ∷ rs) low high = ap (λ (t : Bool). cond t (b ∷ r ∷ rs) (r ∷ with_buffer b rs)) (lt-ltb b.index r.index high.0)
place_by b (f ∷ fs) rest low high =
    let behind : nat_lt b.index f.index ≡ false = false_from_ne_true (nat_lt b.index f.index) (λ t. let up = ltb-true b.index f.index t in let down = low.0 in absurd (omega (arith, up, down))) in
    ap (λ (t : Bool). cond t (b ∷ f ∷ (fs ++ rest)) (f ∷ with_buffer b (fs ++ rest))) behind ∙ ap (λ (bs : List Buffer). f ∷ bs) (place_by b fs rest low.1 high)

-- each goes behind those in front and the ones that went before it
abbrev GoBetween : List Buffer → List Buffer → List Buffer → Type 0
GoBetween front [] rest = Unit {0}
GoBetween front (b ∷ bs) rest = Each (λ (f : Buffer). f.index < b.index) front × (Each (λ (r : Buffer). b.index < r.index) rest × GoBetween (front ++ b ∷ []) bs rest)

go_between : (low : ℕ) (front bufs rest : List Buffer) (high : ℕ) → Rise low (indices_of (bufs ++ rest)) high → Each (λ (f : Buffer). f.index ≤ low) front → GoBetween front bufs rest
go_between low front [] rest high r under = tt
go_between low front (b ∷ bs) rest high r under =
    let first : low < b.index = r.0 in
    let above : Each (λ (x : Buffer). b.index < x.index) (bs ++ rest) =
    each-unmap (λ (n : ℕ). b.index < n) (λ (x : Buffer). x.index) (bs ++ rest) (rise-above b.index (indices_of (bs ++ rest)) high r.1) in
    let lower : Each (λ (f : Buffer). f.index ≤ b.index) front = each-weaker (λ (f : Buffer). f.index ≤ low) (λ (f : Buffer). f.index ≤ b.index) (λ f here. omega (arith, here, first)) front under in (
      each-weaker (λ (f : Buffer). f.index ≤ low) (λ (f : Buffer). f.index < b.index) (λ f here. omega (arith, here, first)) front under,
      (
        each-back (λ (x : Buffer). b.index < x.index) bs rest above,
        go_between b.index (front ++ b ∷ []) bs rest high r.1 (each-append (λ (f : Buffer). f.index ≤ b.index) front (b ∷ []) lower (omega arith, tt)),
      ),
    )

give_all : (front bufs rest : List Buffer) (state : PoolState) → GoBetween front bufs rest → state.free ≡ front ++ rest → (pool_with_all bufs state).free ≡ front ++ (bufs ++ rest)
give_all front [] rest state between is = is
give_all front (b ∷ bs) rest state between is =
    let here : with_buffer b state.free ≡ (front ++ b ∷ []) ++ rest =
    ap (with_buffer b) is ∙ (place_by b front rest between.0 between.1.0 ∙ sym (append_assoc front (b ∷ []) rest)) in
    give_all (front ++ b ∷ []) bs rest (pool_with b state) between.1.1 here ∙ append_assoc front (b ∷ []) (bs ++ rest)

abbrev pool_of : ℕ → List Buffer → PoolState
pool_of buffers free = record { buffers = buffers; free = free }

pub taken_back : TakenIsGivenBack
taken_back pool h state count legal size are =
    let x = holdings_of pool h in
    let taken = take count state.free in
    let left = drop count state.free in
    let whole : taken ++ left ≡ state.free = take-append-drop count state.free in
    let rise : Rise 1 (indices_of (taken ++ left)) (pool + 1) =
    subst (λ (ns : List ℕ). Rise 1 ns (pool + 1)) (sym (ap (λ (bs : List Buffer). indices_of bs) whole ∙ are)) (free-rises pool h legal).rise in
    let given : (pool_with_all taken (pool_less count state)).free ≡ state.free =
    give_all [] taken left (pool_less count state) (go_between 1 [] taken left (pool + 1) rise tt) refl ∙ whole in
    record {
      can = can_give pool taken (pool_less count state) size (λ b.
          let parted = buffers-parted pool h legal b in
          let one = count_of-append b (x.free ++ flat_map buffers_at_port x.ports) (flat_map buffers_held x.sessions) in
          let two = count_of-append b x.free (flat_map buffers_at_port x.ports) in
          let three = count_of-append b (indices_of taken) (indices_of left) in
          let join : indices_of taken ++ indices_of left ≡ x.free = sym (map-append (λ (c : Buffer). c.index) taken left) ∙ (ap (λ (bs : List Buffer). indices_of bs) whole ∙ are) in
          let four = ap (count_of b) join in
          omega (arith, parted, one, two, three, four));
      same = ap (λ (n : ℕ). pool_of n (pool_with_all taken (pool_less count state)).free) (with_all_size taken (pool_less count state)) ∙ ap (pool_of state.buffers) given;
    }
