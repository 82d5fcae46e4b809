use Rattle.std.proofs.Common.{refl}
use Rattle.std.proofs.lemmas.List.{length-set}
use Rattle.nm_region.specs.Buffers.{with_bytes}
use Rattle.nm_hold.specs.Standings.{cell_written}
use Rattle.nm_hold.specs.Holds.{cell_at}
use Rattle.nm_hold.proofs.Tied.{tied-kept}
use Rattle.nm_hold.proofs.Shown.{named_stands}
use Rattle.nm_hold.proofs.hold.Hold.lend.Goals as goal

pub invariant_of-self-lent : goal.invariant_of-self-lent
invariant_of-self-lent c w =
    let cells = c.self.inside.cells in
    let idx = c.args.idx in
    let inv = c.self.invariant in
    let found = named_stands (cell_at cells idx) (rw (← c.self.view_is) at c.requires) in
    let same = length-set cells idx (cell_written (cell_at cells idx) w) in
    record {
      low = rw same inv.low;
      high = rw same inv.high;
      tables = inv.tables;
      once = inv.once;
      tied = rw found.1 (tied-kept cells c.self.inside.ports.tables idx found.0 (record (found.0) { buf = with_bytes found.0.buf w }) inv.tied found.1 refl refl);
    }
