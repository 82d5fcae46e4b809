use Rattle.std.proofs.Common.{ℕ, ◌≡◌, ◌≢◌, ◌≤◌, ◌<◌, ◌+◌, ◌*◌, ◌++◌, List, [], length, take, drop, slice_set, get_or, nat_eq, inl, inr, None, sym, ◌∙◌, ap, subst, arith, rules}
use Rattle.std.specs.Prelude.{Option}
use Rattle.std.specs.Option.{option_to_list}
use Rattle.std.proofs.lemmas.Bool.{cases_Bool}
use Rattle.std.proofs.lemmas.Bool.Decides.{nat_tests}
use Rattle.std.proofs.lemmas.List.{length-set, drop_at, take_all, length-append}
use Rattle.nm_region.specs.Buffers.{Buffer}
use Rattle.nm_pool.specs.Bits.{bit_of, mark, AreBits}
use Rattle.nm_pool.specs.Kept.{buffers_in, ArePlaced}
use Rattle.nm_pool.proofs.Keeping.{ArePlaced-set_none}
use Rattle.nm_pool.proofs.Marked.{bit-within, bits-changed, none-kept}
use Rattle.nm_pool.proofs.Taken.{kept_left, few_more, next-split}
use Rattle.nm_pool.proofs.pool.take_first.Goals as goal

pub loop-words-preserved : goal.loop-words-preserved
loop-words-preserved c =
    let places = c.loop-words.places.items in
    let words = c.loop-words.words.items in
    let taken = c.loop-words.taken.items in
    let at = c.loop-words.at in
    let inv = c.loop-words.invariant in
    let found = c.in-Some.found in
    let all = buffers_in c.args.places.now.items in
    let within : found < length places = bit-within words places found inv.bits c.in-Some.ensures.set in
    let before = none-kept words places at inv.bits inv.before in
    let between = none-kept words places found inv.bits c.in-Some.ensures.before in
    let gone = c.take_at.ensures.places in
    let clear = c.clear_bit.ensures in
    let x = get_or places found None in
    let bits : AreBits c.clear_bit.new.words.items (slice_set places found None) = bits-changed words c.clear_bit.new.words.items places found None within clear.same clear.other inv.bits in
    let whole : (taken ++ option_to_list x) ++ buffers_in (drop (found + 1) (slice_set places found None)) ≡ all = next-split taken places at found all within before between inv.split in
    record {
      before = λ j h. elim (cases_Bool (nat_eq j found)) [
        | inl e ↦ (let same : found ≡ j = grind (arith, nat_tests) in subst (λ (k : ℕ). bit_of c.clear_bit.new.words.items k ≡ 0) same clear.same)
        | inr e ↦ (let other : j ≢ found = grind (arith, nat_tests) in
            let low : j < found = omega (arith, other, h) in
            clear.other j other ∙ c.in-Some.ensures.before j low)
      ];
      bits = rw gone bits;
      words = clear.count ∙ inv.words;
      split = rw (gone, c.take_at.ensures.taken) whole;
      placed = λ index p. rw gone (ArePlaced-set_none index places found (inv.placed index p));
      count = rw gone (length-set places found None ∙ inv.count);
      room = rw c.take_at.ensures.capacity inv.room;
      few = rw c.take_at.ensures.taken (few_more taken x c.args.n (search rules));
      end = (let same = length-set places found None in rw (gone, same) (omega (arith, within)));
    }

pub returns-clause-left : goal.returns-clause-left
returns-clause-left c =
    let inv = c.loop-words.invariant in
    let places = c.loop-words.places.items in
    let at = c.loop-words.at in
    let emptied = none-kept c.loop-words.words.items places at inv.bits inv.before in
    let count : length c.loop-words.taken.items ≡ c.args.n = search rules in
    sym (ap (drop c.args.n) (sym inv.split) ∙ (drop_at c.loop-words.taken.items (buffers_in (drop at places)) c.args.n count ∙ sym (kept_left places at emptied)))

pub unreachable-requires : goal.unreachable-requires
unreachable-requires c =
    let inv = c.loop-words.invariant in
    let places = c.loop-words.places.items in
    let words = c.loop-words.words.items in
    let taken = c.loop-words.taken.items in
    let at = c.loop-words.at in
    let none = c.in-None.ensures.none in
    let ahead = none-kept words places at inv.bits inv.before in
    let gone : buffers_in places ≡ [] = ap buffers_in (sym (take_all (length places) places (omega arith))) ∙ none-kept words places (length places) inv.bits (λ j h. none j) in
    let left : buffers_in (drop at places) ≡ [] = sym (kept_left places at ahead) ∙ gone in
    let sum = sym (length-append taken (buffers_in (drop at places))) ∙ ap length inv.split in
    let nothing = ap length left in
    omega (arith, sum, nothing, c.requires.enough, c.loop-words-test.true)
