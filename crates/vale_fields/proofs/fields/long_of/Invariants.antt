use Rattle.std.proofs.Common.{◌≡◌, take, min}
use Rattle.vale_words.specs.Words.{number_of}
use Rattle.vale_fields.proofs.fields.long_of.Given as goal

abbrev pub invariant-loop-b : goal.invariant-loop-b
invariant-loop-b l = l.number ≡ min (number_of (take l.b-index l.word)) 18446744073709551615
