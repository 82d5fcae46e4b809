use Rattle.std.proofs.Common.{ℕ, [], ap, ◌∙◌}
use Rattle.nm_types.specs.OwnPorts.{empty_own}
use Rattle.nm_port.specs.Regions.{SideState}
use Rattle.nm_desk.proofs.Entered.{has-entered}
use Rattle.nm_desk.proofs.desk.Desk.enter.Goals as goal

pub returns-in-Ok-clause-entered : goal.returns-in-Ok-clause-entered
returns-in-Ok-clause-entered c =
    has-entered c.args.book.now c.enter.new.self c.args.user c.in-Ok.id.0 c.enter.ensures.fits c.history-legal.ensures.legal c.in-Ok.ensures.made c.in-Ok.ensures.id
    c.in_ok-own.own (c.in_ok-own.ensures ∙ ap (λ (n : ℕ). let side : SideState = record { own = empty_own n; regions = [] } in side) c.buffers.ensures) c.in-Ok.ensures.room
