use Rattle.std.proofs.Common.{ℕ, ◌≡◌, ◌<◌, ◌∙◌, ◌∷◌, [], List, length, drop, remove, nat_eq, refl, sym, ap, arith, rules}
use Rattle.std.specs.List.{IsDistinct}
use Rattle.nm_region.specs.Buffers.{Buffer}
use Rattle.nm_own.specs.Opening.{IsNew}
use Rattle.own_tests.proofs.sync.take_one.Goals as goal

one_apart : (i : ℕ) → IsDistinct nat_eq (i ∷ [])
unfolding IsDistinct
one_apart i = (tt, tt)

remove_first : (bufs : List Buffer) → remove bufs 0 ≡ drop 1 bufs
remove_first [] = refl
remove_first (b ∷ bufs) = refl

pub taken-own-requires : goal.taken-own-requires
taken-own-requires g c =
    let lent = c.lend_frames-lent.new.pending.items in
    let came : c.push_reserved.new.self.items ≡ c.args.buf ∷ [] = c.push_reserved.ensures.items ∙ rw c.room-came.ensures.empty refl in
    let one : length c.push_reserved.new.self.items ≡ 1 = rw came refl in
    let some : 0 < length lent = search rules in
    let new : IsNew c.args.own.own c.args.buf.index = search rules in (
      c.args.own,
      (
        lent,
        record {
          lends = c.lend_frames-lent.ensures.lent;
          back = c.remove-went.ensures.items ∙ (remove_first lent ∙ ap (λ (n : ℕ). drop n lent) (sym one));
          few = omega (arith, one, some);
          new = rw came ((new, tt));
          once = rw came (one_apart c.args.buf.index);
        },
      ),
    )
