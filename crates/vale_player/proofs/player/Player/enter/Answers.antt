use Rattle.vale_fabric.specs.Fabrics.{knowing}
use Rattle.vale_player.proofs.Entered.{has-entered}
use Rattle.vale_player.proofs.player.Player.enter.Goals as goal

pub returns-in-Ok-clause-entered : goal.returns-in-Ok-clause-entered
returns-in-Ok-clause-entered g c =
    let told = c.in-Ok.ensures in
    has-entered c.args.fabric.now (knowing c.args.pass) c.args.number c.in-Ok.session told.made told.id told.fabric told.fixed told.own c.new.result.items c.args.names.now c.new.ensures.items
