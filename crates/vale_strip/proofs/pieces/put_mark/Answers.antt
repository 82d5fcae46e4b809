use Rattle.vale_strip.proofs.Strips.{gathered_nowhere}
use Rattle.vale_strip.proofs.pieces.put_mark.Goals as goal

pub returns-then-no_learn-clause-gathers : goal.returns-then-no_learn-clause-gathers
returns-then-no_learn-clause-gathers g c = rw (c.if-no_learn.true) c.put_byte.ensures.gathers

pub returns-else-no_learn-clause-gathers : goal.returns-else-no_learn-clause-gathers
returns-else-no_learn-clause-gathers g c = rw (c.if-no_learn.false) (gathered_nowhere _ _)
