use Rattle.std.proofs.Common.{◌≡◌, length, ap, sym, ◌∙◌, rules}
use Rattle.nm_pool.specs.Free.{PoolState}
use Rattle.nm_pool.specs.Kept.{buffers_in}
use Rattle.nm_pool.proofs.Keeping.{AreWhole-buffers_in}
use Rattle.nm_pool.proofs.pool.Pool.close.Goals as goal

pub returns-clause-whole : goal.returns-clause-whole
returns-clause-whole c =
    let places = c.self.inside.places.items in
    let all : c.loop-place.room.items ≡ c.args.self.free = search rules in
    let free : buffers_in places ≡ c.args.self.free = ap (λ (p : PoolState). p.free) c.self.view_is in
    let buffers : length places ≡ c.args.self.buffers = ap (λ (p : PoolState). p.buffers) c.self.view_is in
    let each : length (buffers_in places) ≡ length places = ap length free ∙ (c.requires ∙ sym buffers) in
    rw (all ∙ sym free) (AreWhole-buffers_in 2 places c.self.invariant.placed each)
