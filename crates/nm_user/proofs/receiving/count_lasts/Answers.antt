use Rattle.std.proofs.Common.{ap, arith}
use Rattle.vale_line.specs.Gots.{last_count}
use Rattle.vale_line.proofs.FrameLemmas.{few-lasts}
use Rattle.vale_line.proofs.ReadyLemmas.{lasts-more}
use Rattle.nm_user.proofs.receiving.count_lasts.Goals as goal

pub overflow_add-count : goal.overflow_add-count
overflow_add-count c =
    let gots = c.args.gots.now in
    let got = c.index-gots-i.result in
    let more = lasts-more gots c.loop-i.i got c.loop-i-test.true in
    let one = ap last_count c.index-gots-i.is in
    let all = few-lasts gots in
    omega (arith, more, one, all, c.last_count-count.ensures, c.loop-i.invariant, c.requires)
