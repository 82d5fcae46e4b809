use Rattle.std.proofs.Common.{◌≡◌, ◌∙◌, List, map, ap, sym, subst}
use Rattle.std.specs.Prelude.{length, ◌<◌, ◌^◌}
use Rattle.vale_batch.specs.Wants.{wanted}
use Rattle.vale_steps.specs.Wanting.{AreSmall, wants_with}
use Rattle.vale_steps.proofs.MonitoredWants.{wants-are}
use Rattle.vale_steps.proofs.SmallWants.{sendable-small, small-wants}
use Rattle.vale_steps.proofs.wanting.with_monitor.Goals as goal

pub add_monitor-requires : goal.add_monitor-requires
add_monitor-requires c =
    (subst AreSmall (sym c.in_ok-sizes.ensures) (sendable-small c.args.monitor c.args.batch.now c.requires.sendable)).count

pub returns-clause-wants : goal.returns-clause-wants
returns-clause-wants c =
    c.in_ok-add_monitor.ensures
    ∙ (ap (λ (sizes : List _). wants_with c.args.monitor sizes (map wanted c.args.wants.items)) c.in_ok-sizes.ensures ∙ wants-are c.args.monitor c.args.batch.now (map wanted c.args.wants.items))

pub returns-clause-small : goal.returns-clause-small
returns-clause-small c =
    small-wants c.add_monitor.new.wants.items c.args.monitor c.in_ok-sizes.sizes.items (map wanted c.args.wants.items)
    (subst AreSmall (sym c.in_ok-sizes.ensures) (sendable-small c.args.monitor c.args.batch.now c.requires.sendable)) c.requires.small c.in_ok-add_monitor.ensures
