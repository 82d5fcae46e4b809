use Rattle.std.proofs.Common.{arith}
use Rattle.std.proofs.lemmas.List.{length-map}
use Rattle.vale_line.specs.Cells.{gots_in}
use Rattle.vale_line.specs.Gots.{buffer_of}
use Rattle.vale_line.proofs.RingLemmas.{idle-count}
use Rattle.vale_line.proofs.ring.Ring.idle_len.Goals as goal

pub returns : goal.returns
returns c =
    let r = c.args.self.now in
    let is = c.requires in
    let count = idle-count r.lent r.idle.values is.lent is.full in
    let same = length-map (gots_in r.idle.values) buffer_of in
    let len = c.len.ensures in
    omega (arith, count, same, len)
