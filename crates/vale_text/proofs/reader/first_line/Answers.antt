use Rattle.std.proofs.Common.{◌+◌, sym}
use Rattle.std.proofs.lemmas.List.{take_rest}
use Rattle.vale_text.proofs.Reading.{cut-found, cut-none}
use Rattle.vale_text.proofs.reader.first_line.Goals as goal

pub returns-in-Some-clause-some : goal.returns-in-Some-clause-some
returns-in-Some-clause-some c = rw (take_rest c.args.bytes.now (c.in-Some.end + 1)) (cut-found c.args.bytes.now c.in-Some.end (sym c.in-Some.ensures))

pub returns-in-None-clause-none : goal.returns-in-None-clause-none
returns-in-None-clause-none c = cut-none c.args.bytes.now (sym c.in-None.ensures)
