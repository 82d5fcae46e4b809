-- The buffers that an entry brings are none of its session's, and are of the pool, each once.
use Rattle.std.proofs.Common.{ℕ, zero, suc, ◌+◌, ◌≤◌, ◌≡◌, Bool, true, false, cond, ◌==◌, nat_le, List, [], ◌∷◌, ◌++◌, take, drop, flat_map, length, sum_by, Some, refl, sym, ◌∙◌, ap, arith}
use Rattle.std.specs.List.{AllByRecursion as Each}
use Rattle.std.proofs.lemmas.List.Elements.{All-from_recursion}
use Rattle.std.proofs.lemmas.List.Sums.{sum_by-cons}
use Rattle.std.proofs.lemmas.Bool.{and_parts, eq-eqb, leb-true}
use Rattle.nm_types.specs.declared.id.PortId.{PortId}
use Rattle.nm_types.specs.OwnSyncs.{buffers_of_arrivals}
use Rattle.vale_entry.specs.declared.entry.Ask.{Ask}
use Rattle.vale_entry.specs.declared.entry.Entry.{Entry}
use Rattle.vale_entry.specs.declared.entry.Reply.{Reply}
use Rattle.vale_entry.specs.World.{Port, open_port}
use Rattle.vale_entry.specs.Arrivals.{arrivals_of, delivered_parts, given_at}
use Rattle.vale_entry.specs.Delivery.{ready_lots, delivered_frames}
use Rattle.vale_entry.specs.Holdings.{PortBuffers, delivered_buffers, first_idle, is_buffer_index}
use Rattle.vale_entry.specs.Legal.{Standing, standing_of, sync_step}
use Rattle.vale_entry.proofs.Follows.{EachKind, IsQuiet, refused_open, Receives, by_sync, by_get, follows-by}
use Rattle.vale_entry.proofs.Numbered.{Numbered}
use Rattle.vale_entry.proofs.Holding.{Held, at_port, times_held}
use Rattle.vale_entry.proofs.Counting.{count_of, count_of-cons, count_of-append}
use Rattle.vale_entry.proofs.HistoryLaws.{history-stands}
use Rattle.vale_own.specs.Own.{own_of}
use Rattle.vale_own.specs.Side.{buffers_on}
use Rattle.vale_own.specs.SideLaws.{ArrivalsAreApart, BuffersComeNew, IsNewTo}
use Rattle.vale_own.proofs.Buffers.{session-counted, blank-buffers, frame-buffers, came-length, size-parts}

-- a part of a list has a buffer no more often
pub count-taken : (b n : ℕ) (xs : List ℕ) → count_of b (take n xs) + count_of b (drop n xs) ≡ count_of b xs
count-taken b zero xs = omega arith
count-taken b (suc n) [] = refl
count-taken b (suc n) (x ∷ xs) =
    let rest = count-taken b n xs in
    let all = count_of-cons b x xs in
    let some = count_of-cons b x (take n xs) in
    omega (arith, rest, all, some)

count-two : (b n skip more : ℕ) (xs : List ℕ) → count_of b (take n xs) + count_of b (take more (drop (n + skip) xs)) ≤ count_of b xs
count-two b zero skip more xs =
    let same : 0 + skip ≡ skip = omega arith in
    let front = count-taken b skip xs in
    let back = count-taken b more (drop skip xs) in
    rw same (omega (arith, front, back))
count-two b (suc n) skip more [] = none
  where
    none : count_of b [] + count_of b (take more (drop (suc n + skip) [])) ≤ 0
    none = let front = count-taken b (suc n + skip) [] in let back = count-taken b more (drop (suc n + skip) []) in omega (arith, front, back)
count-two b (suc n) skip more (x ∷ xs) =
    let rest = count-two b n skip more xs in
    let sums : suc n + skip ≡ suc (n + skip) = omega arith in
    let all = count_of-cons b x xs in
    let some = count_of-cons b x (take n xs) in
    rw sums (omega (arith, rest, all, some))

delivered-counted : (b id n : ℕ) (helds : List PortBuffers) → count_of b (delivered_buffers id n helds) ≤ sum_by (at_port b) helds
delivered-counted b id n [] = omega arith
delivered-counted b id n (h ∷ hs) = by (h.port == id) refl (delivered-counted b id n hs)
  where
    lots-taken : (k : ℕ) (lots : List (List ℕ)) → count_of b (flat_map (λ (list : List ℕ). list) (take k lots)) ≤ count_of b (flat_map (λ (list : List ℕ). list) lots)
    lots-taken zero lots = omega arith
    lots-taken (suc k) [] = omega arith
    lots-taken (suc k) (lot ∷ lots) =
        let rest = lots-taken k lots in
        let some = count_of-append b lot (flat_map (λ (list : List ℕ). list) (take k lots)) in
        let all = count_of-append b lot (flat_map (λ (list : List ℕ). list) lots) in
        omega (arith, rest, some, all)

    sum : sum_by (at_port b) (h ∷ hs) ≡ at_port b h + sum_by (at_port b) hs
    sum = sum_by-cons (at_port b) h hs

    by : (c : Bool) → (h.port == id) ≡ c → count_of b (delivered_buffers id n hs) ≤ sum_by (at_port b) hs → count_of b (delivered_buffers id n (h ∷ hs)) ≤ sum_by (at_port b) (h ∷ hs)
    by true t rest =
        let held = count_of-append b h.idle (flat_map (λ (list : List ℕ). list) h.lots) in
        let part = lots-taken n h.lots in
        let all = sum in
        rw t (omega (arith, held, part, all))
    by false t rest = rw t (let all = sum in omega (arith, rest, all))

idle-counted : (b id n : ℕ) (helds : List PortBuffers) → count_of b (first_idle id n helds) ≤ sum_by (at_port b) helds
idle-counted b id n [] = omega arith
idle-counted b id n (h ∷ hs) = by (h.port == id) refl (idle-counted b id n hs)
  where
    sum : sum_by (at_port b) (h ∷ hs) ≡ at_port b h + sum_by (at_port b) hs
    sum = sum_by-cons (at_port b) h hs

    by : (c : Bool) → (h.port == id) ≡ c → count_of b (first_idle id n hs) ≤ sum_by (at_port b) hs → count_of b (first_idle id n (h ∷ hs)) ≤ sum_by (at_port b) (h ∷ hs)
    by true t rest =
        let held = count_of-append b h.idle (flat_map (λ (list : List ℕ). list) h.lots) in
        let part = count-taken b n h.idle in
        let all = sum in
        rw t (omega (arith, held, part, all))
    by false t rest = rw t (let all = sum in omega (arith, rest, all))

-- what comes was free, or of a port
abbrev ComesFrom : Standing → Ask → Reply → Type 0
ComesFrom s ask reply = (b : ℕ) → count_of b (buffers_of_arrivals (arrivals_of s ask reply)) ≤ count_of b s.holdings.free + sum_by (at_port b) s.holdings.ports

comes-quiet : (s : Standing) (ask : Ask) (by : ℕ) (reply : Reply) → IsQuiet s ask by reply → ComesFrom s ask reply
comes-quiet s ask by reply (refused_open session name tx rx extra fault can e) = λ b. omega arith
comes-quiet s ask by reply _ = λ b. omega arith

comes-given : (s : Standing) (at : PortId) (port : Port) → open_port s.world.ports at.0 ≡ Some port → Numbered s → Held s
    → (b : ℕ) → count_of b (buffers_of_arrivals (given_at s at.0)) ≤ count_of b s.holdings.free + sum_by (at_port b) s.holdings.ports
comes-given s at port e n h b =
    let come = frame-buffers (delivered_buffers port.id (length (ready_lots port)) s.holdings.ports) (delivered_parts port) (came-length s at.0 port e n h ∙ sym (size-parts (delivered_frames port))) in
    let part = delivered-counted b port.id (length (ready_lots port)) s.holdings.ports in
    rw e (rw come (omega (arith, part)))

comes-received : (s : Standing) (ask : Ask) (at : PortId) (back : List ℕ) (port : Port) → Receives ask at back → open_port s.world.ports at.0 ≡ Some port → Numbered s → Held s
    → ComesFrom s ask (sync_step s back port).reply
comes-received s ask at back port (by_sync at' back') e n h = comes-given s at port e n h
comes-received s ask at back port (by_get at' back') e n h = comes-given s at port e n h

comes-kinds : (s : Standing) → Numbered s → Held s → EachKind s (λ ask made. ComesFrom s ask made.reply)
comes-kinds s n h = record {
  enters = λ user fits b. omega arith;
  quiet = λ ask by reply quiet. comes-quiet s ask by reply quiet;
  opens = λ session name tx rx extra can refusal b.
      let come = blank-buffers (take tx s.holdings.free ++ take extra (drop (tx + rx) s.holdings.free)) in
      let both = count_of-append b (take tx s.holdings.free) (take extra (drop (tx + rx) s.holdings.free)) in
      let part = count-two b tx rx extra s.holdings.free in
      rw come (omega (arith, both, part));
  sends = λ from frames port e can settled b. omega arith;
  grants = λ origin to offer first same b. omega arith;
  completes = λ lease lot e b. omega arith;
  receives = λ ask at back port receives e can. comes-received s ask at back port receives e n h;
  puts = λ at offered items port peer e can found b.
      let come = blank-buffers (first_idle peer.id (length items) s.holdings.ports) in
      let part = idle-counted b peer.id (length items) s.holdings.ports in
      rw (e, found) (rw come (omega (arith, part)));
  watches = λ at target sides port found e can there none b. omega arith;
  shuts = λ at port e settled b. omega arith;
  finishes = λ at bufs chain port fits e can out b. omega arith;
  leaves = λ session can b. omega arith;
}

abbrev ComesFromAt : Standing → Entry → Standing → Type 0
ComesFromAt s e t = ComesFrom s e.ask e.reply

pub arrivals-apart : ArrivalsAreApart
arrivals-apart pool past e b legal follows =
    let s = standing_of pool past in
    let k = history-stands pool past legal in
    let come = follows-by s (ComesFromAt s) e follows (comes-kinds s k.numbered k.held) b in
    let own = session-counted b e.session.0 s.holdings.sessions in
    let parted : times_held b s.holdings ≡ cond (is_buffer_index pool b) 1 0 = k.held.parted b ∙ ap (λ (n : ℕ). cond (is_buffer_index n b) 1 0) k.pool_is in
    omega (arith, come, own, parted)

-- a buffer that stands in a list
each-counted : (P : ℕ → Type 0) (xs : List ℕ) → ((b : ℕ) → 1 ≤ count_of b xs → P b) → Each P xs
each-counted P [] holds = tt
each-counted P (x ∷ xs) holds = (
  holds x (let here = eq-eqb x x refl in let all = count_of-cons x x xs in rw all (rw here (omega arith))),
  each-counted P xs (λ b some. holds b (let all = count_of-cons b x xs in omega (arith, all, some))),
)

index-of : (pool b n c : ℕ) → n + c ≤ cond (is_buffer_index pool b) 1 0 → 1 ≤ c → (n ≡ 0) × is_buffer_index pool b ≡ true
index-of pool b n c most some = by (is_buffer_index pool b) refl most
  where
    by : (is : Bool) → is_buffer_index pool b ≡ is → n + c ≤ cond is 1 0 → (n ≡ 0) × is_buffer_index pool b ≡ true
    by true e le = (omega (arith, le, some), e)
    by false e le = absurd (omega (arith, le, some))

pub buffers-come-new : BuffersComeNew
buffers-come-new pool past e shut side legal follows of =
    let come = buffers_of_arrivals (arrivals_of (standing_of pool past) e.ask e.reply) in
    All-from_recursion (IsNewTo pool side) come (each-counted (IsNewTo pool side) come (λ b some.
    let found = index-of pool b (count_of b (own_of e.session.0 (standing_of pool past)).buffers) (count_of b come) (arrivals-apart pool past e b legal follows) some in
    let parts = and_parts (nat_le 2 b) (nat_le b (pool + 1)) found.1 in
    let none : count_of b (buffers_on side) ≡ 0 = sym (of.of.buffers b) ∙ found.0 in
    record { index = (leb-true 2 b parts.0, leb-true b (pool + 1) parts.1); no_place = none; no_bytes = of.sound.blank b none }))
