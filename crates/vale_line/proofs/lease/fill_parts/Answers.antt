use Rattle.std.proofs.Common.{◌≡◌, ◌+◌, ◌-◌, ◌<◌, ◌++◌, suc, ℕ, length, take, drop, ap, sym, ◌∙◌, arith, rules}
use Rattle.std.proofs.lemmas.List.{length-set}
use Rattle.nm_frag.specs.Parts.{first_parts}
use Rattle.nm_frag.proofs.PartLemmas.{slots-one}
use Rattle.vale_line.specs.Gots.{got_of, written_parts}
use Rattle.vale_line.proofs.Filling.{written-more, take-min, drop-min}
use Rattle.vale_line.proofs.lease.fill_parts.Goals as goal

pub loop-k-preserved : goal.loop-k-preserved
loop-k-preserved c =
    let rest = c.loop-k.rest.now in
    let at = c.args.at + c.loop-k.k in
    let left = c.slots-count.result - (c.loop-k.k + 1) in
    let gots = c.loop-k.gots.items in
    let size = c.loop-k.invariant.len in
    let room = c.requires.room in
    let count = c.slots-count.ensures.slots in
    let test = c.loop-k-test.true in
    let within : at < length gots = omega (arith, size, room, count, test) in
    let more = written-more gots at left rest c.index_mut.result.now within (sym c.index_mut.ensures.value) in
    let front : c.split_at.result.0.now ≡ take 2048 rest = search (rules, take-min) in
    let back : c.split_at.result.1.now ≡ drop 2048 rest = search (rules, drop-min) in
    let filled : c.fill.new.self ≡ got_of (take 2048 rest) left c.index_mut.result.now.buf = search rules in
    let next : at + 1 ≡ c.args.at + (c.loop-k.k + 1) = omega arith in
    let same : suc left ≡ c.slots-count.result - c.loop-k.k = omega (arith, test) in
    record {
      written = rw (← next, filled, back) (more
          ∙ (ap (λ (n : ℕ). take at gots ++ written_parts (first_parts n rest) (drop at gots)) same ∙ c.loop-k.invariant.written));
      len = length-set gots at c.fill.new.self ∙ size;
    }

pub fill_first-requires : goal.fill_first-requires
fill_first-requires c =
    let one = slots-one (length c.args.bytes.now) c.if-bytes-le-BUFFER_BYTES.true in
    let room = c.requires.room in
    omega (arith, one, room)
