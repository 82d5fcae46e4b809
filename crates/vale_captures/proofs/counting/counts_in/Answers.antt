use Rattle.std.proofs.Common.{◌+◌, length, refl, arith}
use Rattle.std.proofs.lemmas.Option.{slice_get_read}
use Rattle.vale_replay.specs.Replay.{act_of}
use Rattle.vale_captures.specs.Counting.{count_of}
use Rattle.vale_captures.proofs.Sums.{map-next, map-within}
use Rattle.vale_captures.proofs.counting.counts_in.Goals as goal

pub overflow_add-count : goal.overflow_add-count
overflow_add-count c =
    let lines = c.args.lines.now in
    let k = c.loop-line.line-index in
    let line = c.line-item.result in
    let next = map-next act_of count_of lines k line (slice_get_read lines (length lines) k line refl (omega (arith, c.loop-line-test.true)) c.line-item.is) in
    let within = map-within act_of count_of lines (k + 1) in
    omega (arith, next, within, c.loop-line.invariant, c.count_of-count.ensures, c.requires)
