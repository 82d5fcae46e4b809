use Rattle.std.proofs.Common.{map, arith}
use Rattle.vale_batch.specs.Wants.{wanted}
use Rattle.vale_steps.proofs.MonitoredWants.{seen-with, some-sizes}
use Rattle.vale_steps.proofs.wanting.add_monitor.Goals as goal

pub returns-in_ok-add : goal.returns-in_ok-add
returns-in_ok-add c =
    rw c.in-Some.is (seen-with c.in-Some.monitor c.args.sizes.items (map wanted c.args.wants.now.items) (map wanted c.add.new.wants.items) (wanted c.in_ok-want_all.field-0)
    (some-sizes c.is_empty.result c.args.sizes.len _ c.if-not-is_empty.true c.is_empty.ensures (omega (arith, c.args.sizes.ok.0))) c.in_ok-want_all.ensures c.in_ok-add.ensures)
