use Rattle.std.proofs.Common.{ℕ, ◌≡◌, ◌≢◌, ◌+◌, ◌-◌, ◌<◌, None, Some, length, get_or, slice_set, refl, ap, arith}
use Rattle.std.specs.List.{AllByRecursion}
use Rattle.std.proofs.lemmas.List.{length-set}
use Rattle.std.proofs.lemmas.List.Elements.{recursion_from_All}
use Rattle.nm_region.specs.Buffers.{indices_of}
use Rattle.nm_pool.specs.Free.{PoolState, with_buffer}
use Rattle.nm_pool.specs.Kept.{buffers_in}
use Rattle.nm_pool.proofs.Keeping.{buffers_in-set, length-buffers_in, length-with_buffer, ArePlaced-set, placed_apart}
use Rattle.nm_pool.proofs.Marked.{bits-changed}
use Rattle.nm_pool.proofs.pool.Pool.give.Goals as goal

pub overflow_add-self : goal.overflow_add-self
overflow_add-self c =
    let places = c.self.inside.places.items in
    omega (arith, length-buffers_in places, c.self.invariant.size, c.self.invariant.counted)

pub invariant_of-self : goal.invariant_of-self
invariant_of-self c =
    let places = c.self.inside.places.items in
    let at = c.index.result - 2 in
    let buf = c.args.buf in
    let buffers : length places ≡ c.args.self.now.buffers = ap (λ (p : PoolState). p.buffers) c.self.view_is in
    let within : at < length places = omega (arith, c.requires.index, c.index.ensures) in
    let empty : c.index_mut-place.result.now ≡ None = cc in
    let here : buf.index ≡ 2 + at = omega (arith, c.requires.index, c.index.ensures) in
    let put : buffers_in (slice_set places at (Some buf)) ≡ with_buffer buf (buffers_in places) = buffers_in-set buf 2 places at within (rw empty at c.index_mut-place.ensures.value) here c.self.invariant.placed in
    let count = length-set places at (Some buf) in
    let after = c.replace.ensures.after in
    record {
      size = rw (after, count) c.self.invariant.size;
      placed = rw after (ArePlaced-set buf 2 places at here c.self.invariant.placed);
      counted = rw (after, put, length-with_buffer buf (buffers_in places), c.self.invariant.counted) refl;
      emptied = c.self.invariant.emptied;
      room = rw (after, count) c.self.invariant.room;
      bits = rw after (bits-changed c.self.inside.words.items c.set_bit.new.words.items places at (Some buf) within c.set_bit.ensures.same c.set_bit.ensures.other c.self.invariant.bits);
      words = rw (after, count, c.set_bit.ensures.count) c.self.invariant.words;
      few = rw c.set_bit.ensures.count c.self.invariant.few;
    }

pub unreachable-requires : goal.unreachable-requires
unreachable-requires c =
    let places = c.self.inside.places.items in
    let at = c.index.result - 2 in
    let other = c.in-Some._other in
    let buffers : length places ≡ c.args.self.now.buffers = ap (λ (p : PoolState). p.buffers) c.self.view_is in
    let free : buffers_in places ≡ c.args.self.now.free = ap (λ (p : PoolState). p.free) c.self.view_is in
    let within : at < length places = omega (arith, c.requires.index, c.index.ensures) in
    let there : c.index_mut-place.result.now ≡ Some other = cc in
    let some : Some other ≡ get_or places at (Some other) = rw there at c.index_mut-place.ensures.value in
    let here : c.args.buf.index ≡ 2 + at = omega (arith, c.requires.index, c.index.ensures) in
    let apart : AllByRecursion (λ (index : ℕ). index ≢ c.args.buf.index) (indices_of c.args.self.now.free) = recursion_from_All (λ (index : ℕ). index ≢ c.args.buf.index) (indices_of c.args.self.now.free) c.requires.other in
    placed_apart 2 places at c.args.buf.index other within some here c.self.invariant.placed (rw free apart)

pub returns : goal.returns
returns c =
    let places = c.self.inside.places.items in
    let at = c.index.result - 2 in
    let buf = c.args.buf in
    let buffers : length places ≡ c.args.self.now.buffers = ap (λ (p : PoolState). p.buffers) c.self.view_is in
    let free : buffers_in places ≡ c.args.self.now.free = ap (λ (p : PoolState). p.free) c.self.view_is in
    let within : at < length places = omega (arith, c.requires.index, c.index.ensures) in
    let empty : c.index_mut-place.result.now ≡ None = cc in
    let here : buf.index ≡ 2 + at = omega (arith, c.requires.index, c.index.ensures) in
    let put : buffers_in (slice_set places at (Some buf)) ≡ with_buffer buf (buffers_in places) = buffers_in-set buf 2 places at within (rw empty at c.index_mut-place.ensures.value) here c.self.invariant.placed in
    rw (c.replace.ensures.after, put, length-set places at (Some buf), buffers, free) refl
