use Rattle.std.proofs.Common.{◌<◌, length, get_or, None, arith}
use Rattle.std.proofs.lemmas.List.{get_or_default}
use Rattle.std.proofs.lemmas.List.Edits.{map_over_more}
use Rattle.vale_learn.specs.AddressTable.{without_port}
use Rattle.vale_learn.proofs.table.leave_all.Goals as goal

pub loop-entry-preserved : goal.loop-entry-preserved
loop-entry-preserved c =
    let entries = c.loop-entry.entries in
    let i = c.loop-entry.entry-index in
    let within : i < length entries = omega arith in
    let same = get_or_default entries i None (get_or entries i None) within in
    rw c.leave_port.ensures (map_over_more (without_port c.args.port) c.args.entries.now entries i (get_or entries i None) (omega arith) c.loop-entry.invariant same)
