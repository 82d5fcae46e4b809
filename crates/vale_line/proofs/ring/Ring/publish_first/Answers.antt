use Rattle.std.proofs.Common.{◌++◌, List, length, ap, ◌∙◌, arith}
use Rattle.vale_line.specs.declared.got.Got.{Got}
use Rattle.vale_line.proofs.ring.Ring.publish_first.Goals as goal

pub joined-requires : goal.joined-requires
joined-requires c =
    let held = ap length c.give_first.ensures.gots in
    let len = c.give_first.result.ok.0 in
    record { room = λ some. let room = c.requires.room some in omega (arith, held, room, len) }

pub returns-clause-gots : goal.returns-clause-gots
returns-clause-gots c = c.joined.ensures.gots ∙ ap (λ (gs : List Got). c.args.gots.items ++ gs) c.give_first.ensures.gots
