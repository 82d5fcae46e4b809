use Rattle.std.proofs.Common.{◌+◌, sym}
use Rattle.std.proofs.lemmas.List.{take_rest}
use Rattle.vale_fields.proofs.Pieces.{first-piece, one-piece}
use Rattle.vale_fields.proofs.lists.first_piece.Goals as goal

pub returns-in-Some-clause-some : goal.returns-in-Some-clause-some
returns-in-Some-clause-some c = rw (take_rest c.args.text.now (c.in-Some.end + 1)) (first-piece c.args.mark c.args.text.now c.in-Some.end (sym c.in-Some.ensures))

pub returns-in-None-clause-none : goal.returns-in-None-clause-none
returns-in-None-clause-none c = one-piece c.args.mark c.args.text.now (sym c.in-None.ensures)
