use Rattle.std.proofs.Common.{◌≡◌, [], map, Some, refl, sym, ◌∙◌, rules, ◌≤◌, ◌*◌, length, arith}
use Rattle.std.proofs.lemmas.List.{append-nil, length-map}
use Rattle.nm_region.specs.Buffers.{Buffer}
use Rattle.nm_pool.proofs.Keeping.{kept_all, ArePlaced-all}
use Rattle.nm_pool.proofs.Marked.{bits-all}
use Rattle.nm_pool.proofs.pool.Pool.new.Goals as goal

pub invariant_of-result : goal.invariant_of-result
invariant_of-result c =
    let bufs = c.args.bufs.items in
    let none : c.loop-buf.bufs.items ≡ [] = search rules in
    let moved = rw none at c.loop-buf.invariant.moved in
    let all : c.loop-buf.places.items ≡ map (λ (b : Buffer). Some b) bufs = sym (append-nil c.loop-buf.places.items) ∙ moved in
    let count = length-map bufs (λ (b : Buffer). Some b) in
    let is : c.len-count.result ≡ length bufs = search rules in
    let enough : c.len-count.result ≤ length c.in-Ok.words.items * 64 = c.in-Ok.ensures.enough in
    record {
      size = rw (all, count) c.requires.size;
      placed = rw all (ArePlaced-all 2 bufs c.requires.whole);
      counted = rw (all, kept_all bufs) (search rules);
      emptied = search rules;
      room = rw (all, count) (search rules);
      bits = rw all (bits-all c.in-Ok.words.items bufs (λ k h. c.in-Ok.ensures.set k (omega (arith, h, is))) (λ k h. c.in-Ok.ensures.clear k (omega (arith, h, is))));
      words = rw (all, count) (omega (arith, enough, is));
      few = c.in-Ok.ensures.few;
    }

pub returns-clause-ok : goal.returns-clause-ok
returns-clause-ok c =
    let bufs = c.args.bufs.items in
    let none : c.loop-buf.bufs.items ≡ [] = search rules in
    let moved = rw none at c.loop-buf.invariant.moved in
    let all : c.loop-buf.places.items ≡ map (λ (b : Buffer). Some b) bufs = sym (append-nil c.loop-buf.places.items) ∙ moved in
    rw (all, kept_all bufs, length-map bufs (λ (b : Buffer). Some b)) refl
