-- What a session has after an entry and what it gave up is what it had before and what came.
use Rattle.std.proofs.Common.{ℕ, ◌+◌, ◌≤◌, ◌≡◌, Bool, true, false, cond, ◌==◌, List, length, flat_map, refl, ◌∙◌, ap, arith}
use Rattle.std.specs.List.{list_all}
use Rattle.std.proofs.lemmas.Bool.{and_parts}
use Rattle.nm_types.specs.OwnSyncs.{buffers_of_arrivals}
use Rattle.nm_types.specs.declared.id.PortId.{PortId}
use Rattle.vale_entry.specs.declared.entry.Ask.{Ask}
use Rattle.vale_entry.specs.declared.entry.Entry.{Entry}
use Rattle.vale_entry.specs.declared.entry.Reply.{Reply}
use Rattle.vale_entry.specs.World.{Port, due_of}
use Rattle.vale_entry.specs.Arrivals.{arrivals_of}
use Rattle.vale_entry.specs.Holdings.{buffers_without, contains, are_distinct, holds_all, is_buffer_index}
use Rattle.vale_entry.specs.Legal.{Standing, standing_of, sync_step}
use Rattle.vale_entry.proofs.Follows.{EachKind, IsQuiet, counts, Receives, by_sync, by_get, CanReceive, follows-by}
use Rattle.vale_entry.proofs.Counting.{count_of, count_of-append, count-away}
use Rattle.vale_own.specs.Own.{own_of, buffers_of_lease, all_buffers_of}
use Rattle.vale_own.specs.OwnEntries.{given_up}
use Rattle.vale_own.specs.Laws.{BuffersAreMoved}
use Rattle.vale_own.proofs.Buffers.{buffers-apart, buffers-go-and-come}

-- what an entry gives up is its session's, each once
abbrev HoldsGiven : Standing → Ask → ℕ → Reply → Type 0
HoldsGiven s ask session reply = holds_all s.holdings session (given_up ask reply) ≡ true

given-quiet : (s : Standing) (ask : Ask) (by : ℕ) (reply : Reply) → IsQuiet s ask by reply → HoldsGiven s ask by reply
given-quiet s ask by reply (counts at port e) = refl
given-quiet s ask by reply _ = refl

given-receives : (s : Standing) (ask : Ask) (at : PortId) (back : List ℕ) (port : Port) → Receives ask at back → CanReceive s back port → HoldsGiven s ask port.session (sync_step s back port).reply
given-receives s ask at back port (by_sync at' back') can = can.held
given-receives s ask at back port (by_get at' back') can = can.held

given-kinds : (s : Standing) → EachKind s (λ ask made. HoldsGiven s ask made.session made.reply)
given-kinds s = record {
  enters = λ user fits. refl;
  quiet = λ ask by reply quiet. given-quiet s ask by reply quiet;
  opens = λ session name tx rx extra can refusal. refl;
  sends = λ from frames port e can settled. refl;
  grants = λ origin to offer first same. refl;
  completes = λ lease lot e. refl;
  receives = λ ask at back port receives e can. given-receives s ask at back port receives can;
  puts = λ at offered items port peer e can found. can.held;
  watches = λ at target sides port found e can there none. refl;
  shuts = λ at port e settled. refl;
  finishes = λ at bufs chain port fits e can out. (and_parts (length bufs == due_of port) (holds_all s.holdings port.session bufs) can).1;
  leaves = λ session can. refl;
}

abbrev HoldsGivenAt : Standing → Entry → Standing → Type 0
HoldsGivenAt s e t = HoldsGiven s e.ask e.session.0 e.reply

pub buffers-moved : BuffersAreMoved
buffers-moved pool past e b legal follows =
    let s = standing_of pool past in
    let session = e.session.0 in
    let old = (own_of session s).buffers in
    let gone = given_up e.ask e.reply in
    let come = buffers_of_arrivals (arrivals_of s e.ask e.reply) in
    let held = and_parts (list_all (λ c. contains c old) gone) (are_distinct gone) (follows-by s (HoldsGivenAt s) e follows (given-kinds s)) in
    let all = count_of-append b old (flat_map buffers_of_lease (own_of session s).leases) in
    let apart = buffers-apart pool past session b legal in
    let once : count_of b old ≤ 1 = few (count_of b old) (count_of b (flat_map buffers_of_lease (own_of session s).leases)) (count_of b (all_buffers_of (own_of session s))) (is_buffer_index pool b) all apart in
    let away = count-away b gone old held.1 held.0 once in
    let after = ap (count_of b) (buffers-go-and-come pool past e legal follows) ∙ count_of-append b (buffers_without gone old) come in
    omega (arith, away, after)
  where
    few : (a c n : ℕ) (is : Bool) → n ≡ a + c → n ≤ cond is 1 0 → a ≤ 1
    few a c n true sum le = omega (arith, sum, le)
    few a c n false sum le = omega (arith, sum, le)
