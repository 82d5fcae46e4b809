-- The free buffers, as some are taken and given back.
use Rattle.std.proofs.Common.{ℕ, zero, suc, Bool, true, false, cond, ◌≡◌, ◌≢◌, ◌≤◌, ◌+◌, List, [], ◌∷◌, ◌++◌, length, take, drop, Some, refl, sym, ◌∙◌, ap, subst, arith, ◌==◌, nat_lt, nat_le, flat_map}
use Rattle.std.specs.List.{AllByRecursion as Each}
use Rattle.std.proofs.lemmas.Bool.{and_parts, eq-eqb, eqb-false, leb-true}
use Rattle.std.proofs.lemmas.List.{length-map}
use Rattle.std.proofs.lemmas.List.Elements.{All-from_recursion}
use Rattle.nm_types.specs.declared.id.PortId.{PortId}
use Rattle.nm_types.specs.declared.id.Chain.{Chain}
use Rattle.nm_types.specs.Buffers.{IsBufferIndex}
use Rattle.nm_region.specs.Buffers.{Buffer, indices_of}
use Rattle.nm_pool.specs.Free.{PoolState, with_buffer}
use Rattle.vale_entry.specs.declared.entry.Ask.{Ask}
use Rattle.vale_entry.specs.declared.entry.Ask.TheVariants.{Finish}
use Rattle.vale_entry.specs.declared.entry.Reply.{Reply}
use Rattle.vale_entry.specs.declared.entry.Entry.{Entry}
use Rattle.vale_entry.specs.World.{Port}
use Rattle.vale_entry.specs.Holdings.{Holdings, with_free, all_with_free, buffers_of_port, buffers_at_port, buffers_held, is_buffer_index}
use Rattle.vale_entry.specs.Closing.{shutting_port}
use Rattle.vale_entry.specs.Legal.{Standing, after, standing_of, holdings_of, Follows, sync_step}
use Rattle.vale_entry.proofs.Counting.{count_of, count_of-cons, count_of-append}
use Rattle.vale_entry.proofs.Freeing.{count-with_free, count-all_with_free}
use Rattle.vale_entry.proofs.Places.{shutting-place}
use Rattle.vale_entry.proofs.Worlds.{standing-push, legal-push}
use Rattle.vale_entry.proofs.Numbered.{Numbered, world-numbered}
use Rattle.vale_entry.proofs.HistoryLaws.{free-rises, buffers-parted}
use Rattle.vale_entry.proofs.Follows.{EachKind, Left, IsQuiet, refused_open, resets, finds_no_peer, finds_no_target, finds_watched, counts, Receives, by_sync, by_get, follows-by}
use Rattle.vale_parts.specs.FreeBuffers.{FreeAre, pool_less, pool_with, pool_with_all, CanAllBeGiven, AreGivenBack, IsPoolAfter}
use Rattle.vale_parts.specs.FreeLaws.{PoolsKeepTheirSize, FreeFollow, FreeAreCounted, OpeningsAreCut, FinishesCanGive}

-- ---- indices

indices_drop : (n : ℕ) (bufs : List Buffer) → indices_of (drop n bufs) ≡ drop n (indices_of bufs)
indices_drop zero bufs = refl
indices_drop (suc n) [] = refl
indices_drop (suc n) (b ∷ bs) = indices_drop n bs

indices_take : (n : ℕ) (bufs : List Buffer) → indices_of (take n bufs) ≡ take n (indices_of bufs)
indices_take zero bufs = refl
indices_take (suc n) [] = refl
indices_take (suc n) (b ∷ bs) = ap (λ (ns : List ℕ). b.index ∷ ns) (indices_take n bs)

with_by : (buf first : Buffer) (rest more : List Buffer) (free : List ℕ) (below : Bool) → indices_of more ≡ with_free buf.index free → indices_of rest ≡ free
    → indices_of (cond below (buf ∷ first ∷ rest) (first ∷ more)) ≡ cond below (buf.index ∷ first.index ∷ free) (first.index ∷ with_free buf.index free)
with_by buf first rest more free true later same = ap (λ (ns : List ℕ). buf.index ∷ first.index ∷ ns) same
with_by buf first rest more free false later same = ap (λ (ns : List ℕ). first.index ∷ ns) later

indices_with : (buf : Buffer) (bufs : List Buffer) → indices_of (with_buffer buf bufs) ≡ with_free buf.index (indices_of bufs)
indices_with buf [] = refl
indices_with buf (b ∷ bs) = with_by buf b bs (with_buffer buf bs) (indices_of bs) (nat_lt buf.index b.index) (indices_with buf bs) refl

indices_all : (bufs : List Buffer) (pool : PoolState) → indices_of (pool_with_all bufs pool).free ≡ all_with_free (indices_of bufs) (indices_of pool.free)
indices_all [] pool = refl
indices_all (b ∷ bs) pool = indices_all bs (pool_with b pool) ∙ ap (all_with_free (indices_of bs)) (indices_with b pool.free)

-- ---- taking

take_less : {X : Type 0} (n m : ℕ) (xs : List X) → n ≤ m → take n (take m xs) ≡ take n xs
take_less zero m xs fits = refl
take_less (suc n) zero xs fits = absurd (omega arith)
take_less (suc n) (suc m) [] fits = refl
take_less (suc n) (suc m) (x ∷ xs) fits = (let less : n ≤ m = omega arith in ap (λ ys. x ∷ ys) (take_less n m xs less))

drop_taken : {X : Type 0} (n m : ℕ) (xs : List X) → drop n (take (n + m) xs) ≡ take m (drop n xs)
drop_taken zero m xs = (let same : zero + m ≡ m = omega arith in rw same refl)
drop_taken (suc n) zero [] = (let same : suc n + zero ≡ suc (n + zero) = omega arith in rw same refl)
drop_taken (suc n) (suc m) [] = (let same : suc n + suc m ≡ suc (n + suc m) = omega arith in rw same refl)
drop_taken (suc n) m (x ∷ xs) = (let same : suc n + m ≡ suc (n + m) = omega arith in rw same (drop_taken n m xs))

pub openings_cut : OpeningsAreCut
openings_cut x state tx rx extra is =
    let all = tx + rx + extra in
    let taken = take all state.free in
    let first : take tx taken ≡ take tx state.free = take_less tx all state.free (omega arith) in
    let sum : all ≡ tx + (rx + extra) = omega arith in
    let behind : drop tx taken ≡ take (rx + extra) (drop tx state.free) = ap (λ (n : ℕ). drop tx (take n state.free)) sum ∙ drop_taken tx (rx + extra) state.free in
    let middle : take rx (drop tx taken) ≡ take rx (drop tx state.free) = ap (take rx) behind ∙ take_less rx (rx + extra) (drop tx state.free) (omega arith) in
    let last : drop (tx + rx) taken ≡ take extra (drop (tx + rx) state.free) = drop_taken (tx + rx) extra state.free in
    record {
      transmit = ap (λ (bs : List Buffer). indices_of bs) first ∙ (indices_take tx state.free ∙ ap (take tx) is);
      idle = ap (λ (bs : List Buffer). indices_of bs) middle ∙ (indices_take rx (drop tx state.free) ∙ ap (take rx) (indices_drop tx state.free ∙ ap (drop tx) is));
      extras = ap (λ (bs : List Buffer). indices_of bs) last ∙ (indices_take extra (drop (tx + rx) state.free) ∙ ap (take extra) (indices_drop (tx + rx) state.free ∙ ap (drop (tx + rx)) is));
    }

pub free_counted : FreeAreCounted
free_counted pool h state legal is =
    sym (length-map state.free (λ (b : Buffer). b.index)) ∙ (ap (λ (ns : List ℕ). length ns) is ∙ (free-rises pool h legal).count)

-- ---- entry by entry

quiet_pool : (s : Standing) (state next : PoolState) (ask : Ask) (session : ℕ) (reply : Reply) → IsQuiet s ask session reply → IsPoolAfter s.holdings ask reply state next → next ≡ state
quiet_pool s state next _ _ _ (refused_open session name tx rx extra fault can e) is = is
quiet_pool s state next _ _ _ _ is = is

read_pool : (x : Holdings) (state next : PoolState) (ask : Ask) (at : PortId) (back : List ℕ) (reply : Reply) → Receives ask at back → IsPoolAfter x ask reply state next → next ≡ state
read_pool x state next _ _ _ reply (by_sync at back) is = is
read_pool x state next _ _ _ reply (by_get at back) is = is

module _ (s : Standing) (n : Numbered s) (state next : PoolState) (are : FreeAre s.holdings state) where
  abbrev Kept : Entry → Standing → Type 0
  Kept e left = IsPoolAfter s.holdings e.ask e.reply state next → FreeAre left.holdings next

  still : next ≡ state → indices_of next.free ≡ s.holdings.free
  still same = ap (λ (p : PoolState). indices_of p.free) same ∙ are

  opened : (count : ℕ) → next ≡ pool_less count state → indices_of next.free ≡ drop count s.holdings.free
  opened count same = ap (λ (p : PoolState). indices_of p.free) same ∙ (indices_drop count state.free ∙ ap (drop count) are)

  finished : (at : PortId) (bufs : List ℕ) (port : Port) → shutting_port s.world.ports at.0 ≡ Some port → AreGivenBack (buffers_of_port at.0 s.holdings.ports ++ bufs) state next
      → indices_of next.free ≡ all_with_free (buffers_of_port port.id s.holdings.ports ++ bufs) s.holdings.free
  finished at bufs port e back =
      let id = (shutting-place s.world.ports s.world.entry_count at.0 port n.ports_rise e).id_is in
      ap (λ (p : PoolState). indices_of p.free) back.is
      ∙ (indices_all back.given state
      ∙ (ap (λ (ns : List ℕ). all_with_free ns (indices_of state.free)) back.indices_are
      ∙ (ap (all_with_free (buffers_of_port at.0 s.holdings.ports ++ bufs)) are
      ∙ ap (λ (k : ℕ). all_with_free (buffers_of_port k s.holdings.ports ++ bufs) s.holdings.free) (sym id))))

  kinds : EachKind s (Left s Kept)
  kinds = record {
    enters = λ user fits is. still is;
    quiet = λ ask session reply quiet is. still (quiet_pool s state next ask session reply quiet is);
    opens = λ session name tx rx extra can refusal is. opened (tx + rx + extra) is;
    sends = λ from frames port e can settled is. still is;
    grants = λ origin to offer first same is. still is;
    completes = λ lease lot e is. still is;
    receives = λ ask at back port receives e can is. still (read_pool s.holdings state next ask at back (sync_step s back port).reply receives is);
    puts = λ at offered items port peer e can found is. still is;
    watches = λ at target sides port found e can there none is. still is;
    shuts = λ at port e settled is. still is;
    finishes = λ at bufs chain port fits e can out is. finished at bufs port e is;
    leaves = λ session can is. still is;
  }

  pub kept : (e : Entry) → Follows s e → Kept e (after s e)
  kept e follows = follows-by s Kept e follows kinds

pub free_follow : FreeFollow
free_follow pool h e state next follows are made =
    subst (λ (t : Standing). FreeAre t.holdings next) (sym (standing-push pool h e)) (kept (standing_of pool h) (world-numbered pool h) state next are e follows made)

-- ---- giving back

none_here : (b : ℕ) (ns : List ℕ) → count_of b ns ≤ 0 → Each (λ (index : ℕ). index ≢ b) ns
none_here b [] none = tt
none_here b (n ∷ ns) none =
    let sum = count_of-cons b n ns in
    by_test (n == b) refl sum (none_here b ns)
  where
    by_test : (t : Bool) → (n == b) ≡ t → count_of b (n ∷ ns) ≡ cond t 1 0 + count_of b ns → (count_of b ns ≤ 0 → Each (λ (index : ℕ). index ≢ b) ns) → Each (λ (index : ℕ). index ≢ b) (n ∷ ns)
    by_test true e sum rest = absurd (omega (arith, none, sum))
    by_test false e sum rest = (eqb-false n b e, rest (omega (arith, none, sum)))

index_by : (size b : ℕ) (t : Bool) → is_buffer_index size b ≡ t → 1 ≤ cond t 1 0 → IsBufferIndex size b
index_by size b true e some =
    let parts = and_parts (nat_le 2 b) (nat_le b (size + 1)) e in
    (leb-true 2 b parts.0, leb-true b (size + 1) parts.1)
index_by size b false e some = absurd (omega (arith, some))

-- each is of the pool, and is neither free nor given twice
abbrev pub AreApart : List ℕ → List ℕ → ℕ → Type 0
AreApart given free size = (b : ℕ) → count_of b given + count_of b free ≤ cond (is_buffer_index size b) 1 0

at_most_one : (t : Bool) → cond {A = ℕ} t 1 0 ≤ 1
at_most_one true = omega arith
at_most_one false = omega arith

pub can_give : (size : ℕ) (given : List Buffer) (state : PoolState) → state.buffers ≡ size → AreApart (indices_of given) (indices_of state.free) size → CanAllBeGiven state given
can_give size [] state is apart = tt
can_give size (buf ∷ bufs) state is apart =
    let own : (buf.index == buf.index) ≡ true = eq-eqb buf.index buf.index refl in
    let first = count_of-cons buf.index buf.index (indices_of bufs) in
    let one : cond {A = ℕ} (buf.index == buf.index) 1 0 ≡ 1 = rw own refl in
    let here = apart buf.index in
    let most = at_most_one (is_buffer_index size buf.index) in
    let index : IsBufferIndex size buf.index = index_by size buf.index (is_buffer_index size buf.index) refl (omega (arith, first, one, here)) in
    let none : count_of buf.index (indices_of state.free) ≤ 0 = omega (arith, first, one, here, most) in
    let rest : AreApart (indices_of bufs) (indices_of (pool_with buf state).free) size = λ b.
    let now = apart b in
    let cons = count_of-cons b buf.index (indices_of bufs) in
    let more : count_of b (indices_of (with_buffer buf state.free)) ≡ count_of b (buf.index ∷ indices_of state.free) = ap (count_of b) (indices_with buf state.free) ∙ count-with_free b buf.index (indices_of state.free) in
    let other = count_of-cons b buf.index (indices_of state.free) in
    omega (arith, now, cons, more, other) in (
      record {
        index = subst (λ (n : ℕ). IsBufferIndex n buf.index) (sym is) index;
        other = All-from_recursion (λ (i : ℕ). i ≢ buf.index) (indices_of state.free) (none_here buf.index (indices_of state.free) none);
      },
      can_give size bufs (pool_with buf state) is rest,
    )

-- what a Finish makes free
module _ (s : Standing) (n : Numbered s) where
  abbrev Freed : Entry → Standing → Type 0
  Freed e left = (at : PortId) (bufs : List ℕ) (chain : Chain) → e.ask ≡ Finish at bufs chain → left.holdings.free ≡ all_with_free (buffers_of_port at.0 s.holdings.ports ++ bufs) s.holdings.free

  quiet_freed : (free : List ℕ) (ask : Ask) (session : ℕ) (reply : Reply) → IsQuiet s ask session reply → (at : PortId) (bufs : List ℕ) (chain : Chain) → ask ≡ Finish at bufs chain
      → free ≡ all_with_free (buffers_of_port at.0 s.holdings.ports ++ bufs) s.holdings.free
  quiet_freed free _ _ _ (refused_open session name tx rx extra fault can e) at bufs chain is = absurd cc
  quiet_freed free _ _ _ _ at bufs chain is = absurd cc

  read_freed : (free : List ℕ) (ask : Ask) (from : PortId) (back : List ℕ) → Receives ask from back → (at : PortId) (bufs : List ℕ) (chain : Chain) → ask ≡ Finish at bufs chain
      → free ≡ all_with_free (buffers_of_port at.0 s.holdings.ports ++ bufs) s.holdings.free
  read_freed free _ _ _ (by_sync from back) at bufs chain is = absurd cc
  read_freed free _ _ _ (by_get from back) at bufs chain is = absurd cc

  finish_freed : (at : PortId) (bufs : List ℕ) (chain : Chain) (port : Port) → shutting_port s.world.ports at.0 ≡ Some port → (a : PortId) (bs : List ℕ) (c : Chain) → Finish at bufs chain ≡ Finish a bs c
      → all_with_free (buffers_of_port port.id s.holdings.ports ++ bufs) s.holdings.free ≡ all_with_free (buffers_of_port a.0 s.holdings.ports ++ bs) s.holdings.free
  finish_freed at bufs chain port e a bs c is =
      let id = (shutting-place s.world.ports s.world.entry_count at.0 port n.ports_rise e).id_is in
      let same_port : at ≡ a = cc in
      let same_bufs : bufs ≡ bs = cc in
      ap (λ (k : ℕ). all_with_free (buffers_of_port k s.holdings.ports ++ bufs) s.holdings.free) (id ∙ ap (λ (p : PortId). p.0) same_port)
      ∙ ap (λ (ns : List ℕ). all_with_free (buffers_of_port a.0 s.holdings.ports ++ ns) s.holdings.free) same_bufs

  freed_kinds : EachKind s (Left s Freed)
  freed_kinds = record {
    enters = λ user fits at bufs chain is. absurd cc;
    quiet = λ ask session reply quiet. quiet_freed s.holdings.free ask session reply quiet;
    opens = λ session name tx rx extra can refusal at bufs chain is. absurd cc;
    sends = λ from frames port e can settled at bufs chain is. absurd cc;
    grants = λ origin to offer first same at bufs chain is. absurd cc;
    completes = λ lease lot e at bufs chain is. absurd cc;
    receives = λ ask at back port receives e can. read_freed s.holdings.free ask at back receives;
    puts = λ at offered items port peer e can found a bufs chain is. absurd cc;
    watches = λ at target sides port found e can there none a bufs chain is. absurd cc;
    shuts = λ at port e settled a bufs chain is. absurd cc;
    finishes = λ at bufs chain port fits e can out. finish_freed at bufs chain port e;
    leaves = λ session can at bufs chain is. absurd cc;
  }

  pub freed : (e : Entry) → Follows s e → Freed e (after s e)
  freed e follows = follows-by s Freed e follows freed_kinds

pub finishes_give : FinishesCanGive
finishes_give pool h e at bufs chain state given legal follows asks size are is =
    let s = standing_of pool h in
    let x = holdings_of pool h in
    let y = holdings_of pool (h ++ e ∷ []) in
    let free : y.free ≡ all_with_free (buffers_of_port at.0 x.ports ++ bufs) x.free =
    ap (λ (t : Standing). t.holdings.free) (standing-push pool h e) ∙ freed s (world-numbered pool h) e follows at bufs chain asks in
    can_give pool given state size
    (λ b.
    let parted = buffers-parted pool (h ++ e ∷ []) (legal-push pool h e legal follows) b in
    let one = count_of-append b (y.free ++ flat_map buffers_at_port y.ports) (flat_map buffers_held y.sessions) in
    let two = count_of-append b y.free (flat_map buffers_at_port y.ports) in
    let three = ap (count_of b) free in
    let four = count-all_with_free b (buffers_of_port at.0 x.ports ++ bufs) x.free in
    let five = ap (count_of b) is in
    let six = ap (count_of b) are in
    omega (arith, parted, one, two, three, four, five, six))

-- ---- how many there are

pub with_all_size : (bufs : List Buffer) (state : PoolState) → (pool_with_all bufs state).buffers ≡ state.buffers
with_all_size [] state = refl
with_all_size (b ∷ bs) state = with_all_size bs (pool_with b state)

module _ (s : Standing) (state next : PoolState) where
  abbrev Sized : Entry → Standing → Type 0
  Sized e left = IsPoolAfter s.holdings e.ask e.reply state next → next.buffers ≡ state.buffers

  same_size : next ≡ state → next.buffers ≡ state.buffers
  same_size same = ap (λ (p : PoolState). p.buffers) same

  back_size : (indices : List ℕ) → AreGivenBack indices state next → next.buffers ≡ state.buffers
  back_size indices back = ap (λ (p : PoolState). p.buffers) back.is ∙ with_all_size back.given state

  sized_kinds : EachKind s (Left s Sized)
  sized_kinds = record {
    opens = λ session name tx rx extra can refusal is. ap (λ (p : PoolState). p.buffers) is;
    quiet = λ ask session reply quiet is. same_size (quiet_pool s state next ask session reply quiet is);
    receives = λ ask at back port receives e can is. same_size (read_pool s.holdings state next ask at back (sync_step s back port).reply receives is);
    finishes = λ at bufs chain port fits e can out is. back_size (buffers_of_port at.0 s.holdings.ports ++ bufs) is;
    enters = λ user fits is. same_size is;
    sends = λ from frames port e can settled is. same_size is;
    grants = λ origin to offer first same is. same_size is;
    completes = λ lease lot e is. same_size is;
    puts = λ at offered items port peer e can found is. same_size is;
    watches = λ at target sides port found e can there none is. same_size is;
    shuts = λ at port e settled is. same_size is;
    leaves = λ session can is. same_size is;
  }

  pub sized : (e : Entry) → Follows s e → Sized e (after s e)
  sized e follows = follows-by s Sized e follows sized_kinds

pub size_kept : PoolsKeepTheirSize
size_kept pool h e state next follows made = sized (standing_of pool h) state next e follows made
