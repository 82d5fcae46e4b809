use Rattle.std.proofs.Common.{◌++◌, List, length, ap, ◌∙◌, arith}
use Rattle.std.specs.Prelude.{sum_by}
use Rattle.vale_line.specs.declared.got.Got.{Got}
use Rattle.vale_line.specs.Gots.{buffers_of, last_count}
use Rattle.vale_line.proofs.ring.Ring.discard_first.Goals as goal

pub discard-requires-clause-few : goal.discard-requires-clause-few
discard-requires-clause-few c = let count = ap length c.give_first.ensures.gots in let few = c.requires.few in omega (arith, count, few)

pub discard-requires-clause-room : goal.discard-requires-clause-room
discard-requires-clause-room c = let count = ap length c.give_first.ensures.gots in let room = c.requires.room in omega (arith, count, room)

pub returns-clause-bufs : goal.returns-clause-bufs
returns-clause-bufs c = c.discard.ensures.bufs ∙ ap (λ (gs : List Got). c.args.bufs.now.items ++ buffers_of gs) c.give_first.ensures.gots

pub returns-clause-count : goal.returns-clause-count
returns-clause-count c = c.discard.ensures.count ∙ ap (λ (gs : List Got). sum_by last_count gs) c.give_first.ensures.gots
