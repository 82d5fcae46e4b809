use Rattle.std.proofs.Common.{ℕ, List, sym, subst}
use Rattle.vale_player.specs.Deeds.{SavesNamed}
use Rattle.vale_player.specs.Inputs.{records_in}
use Rattle.vale_act.specs.Seats.{KeepsNames}
use Rattle.vale_act.proofs.Alone.{has-acted}
use Rattle.vale_act.proofs.seat.Seat.act.Goals as goal

pub returns-in-There : goal.returns-in-There
returns-in-There g c =
    has-acted (records_in c.args.scene.now.inputs.now) c.args.line.now.act c.act.result c.args.self.now c.in-There.player c.act.new.self c.in-There.fault c.in-There.is
    c.act.ensures.still c.act.ensures.does c.act.ensures.stops

pub act-requires-clause-saves : goal.act-requires-clause-saves
act-requires-clause-saves g c κs outlives =
    let same = subst (KeepsNames c.args.scene.now.names.now) c.in-There.is c.requires.keep in
    subst (λ (names : List (List ℕ)). SavesNamed names c.args.line.now.act) (sym same) c.requires.saves
