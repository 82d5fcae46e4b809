use Rattle.std.proofs.Common.{◌≡◌, [], length, nat_eq, refl, arith}
use Rattle.std.specs.List.{IsDistinct}
use Rattle.own_tests.proofs.own.take_none.Goals as goal

none_apart : IsDistinct nat_eq []
unfolding IsDistinct
none_apart = tt

pub taken-own-requires : goal.taken-own-requires
taken-own-requires g c =
    let none : length c.new.result.items ≡ 0 = rw c.new.ensures.items refl in (
      c.args.own,
      (
        c.lend_frames-lent.new.pending.items,
        record {
          lends = c.lend_frames-lent.ensures.lent;
          back = rw c.new.ensures.items refl;
          few = omega (arith, none);
          new = rw c.new.ensures.items tt;
          once = rw c.new.ensures.items none_apart;
        },
      ),
    )
