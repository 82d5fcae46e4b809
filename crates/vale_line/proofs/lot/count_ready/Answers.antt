use Rattle.std.proofs.Common.{◌≡◌, Some, None, Option, List, ap, sym, ◌∙◌, arith}
use Rattle.std.specs.Prelude.{sum_by}
use Rattle.vale_line.specs.declared.lot.Lot.{Lot}
use Rattle.vale_line.specs.declared.got.Got.{Got}
use Rattle.vale_line.specs.Gots.{last_count}
use Rattle.vale_line.specs.Rings.{held}
use Rattle.vale_line.proofs.FrameLemmas.{few-lasts}
use Rattle.vale_line.proofs.ReadyLemmas.{found-at, not-found-at, some-of, none-of}
use Rattle.vale_line.proofs.lot.count_ready.Goals as goal

pub count_frames-count-requires : goal.count_frames-count-requires
count_frames-count-requires c = let at = found-at c.args.lots.now.items c.loop-i.i c.len-i-end.result c.index.result.now c.in-Some.gots.now c.loop-i-test.true (c.len-i-end.ensures ∙ c.args.lots.now.ok.0) c.index.ensures
    (some-of _ c.done_gots.result c.in-Some.gots (held c.index.result.now).gots c.done_gots.ensures c.in-Some.is) in let count = at.count in omega (arith, count, c.loop-i.invariant.few)

pub overflow_add-count : goal.overflow_add-count
overflow_add-count c =
    let at = found-at c.args.lots.now.items c.loop-i.i c.len-i-end.result c.index.result.now c.in-Some.gots.now c.loop-i-test.true (c.len-i-end.ensures ∙ c.args.lots.now.ok.0) c.index.ensures
    (some-of _ c.done_gots.result c.in-Some.gots (held c.index.result.now).gots c.done_gots.ensures c.in-Some.is) in
    let count = at.count in
    let most = few-lasts c.in-Some.gots.now in
    omega (arith, count, most, c.count_frames-count.ensures, c.loop-i.invariant.few)

pub returns-in-None : goal.returns-in-None
returns-in-None c =
    let none = not-found-at c.args.lots.now.items c.loop-i.i c.len-i-end.result c.index.result.now c.loop-i-test.true (c.len-i-end.ensures ∙ c.args.lots.now.ok.0) c.index.ensures
    (none-of _ c.done_gots.result (held c.index.result.now).gots c.done_gots.ensures c.in-None.is) in
    let zero = ap (sum_by last_count) none.0 in
    omega (arith, zero, c.loop-i.invariant.counted)

pub loop-i-preserved : goal.loop-i-preserved
loop-i-preserved c =
    let at = found-at c.args.lots.now.items c.loop-i.i c.len-i-end.result c.index.result.now c.in-Some.gots.now c.loop-i-test.true (c.len-i-end.ensures ∙ c.args.lots.now.ok.0) c.index.ensures
    (some-of _ c.done_gots.result c.in-Some.gots (held c.index.result.now).gots c.done_gots.ensures c.in-Some.is) in
    let count = at.count in
    let lasts = at.lasts in
    let most = few-lasts c.in-Some.gots.now in
    record {
      counted = omega (arith, lasts, c.count_frames-count.ensures, c.loop-i.invariant.counted);
      few = omega (arith, count, most, c.count_frames-count.ensures, c.loop-i.invariant.few);
    }
