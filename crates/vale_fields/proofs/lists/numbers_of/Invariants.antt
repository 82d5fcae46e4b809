use Rattle.std.proofs.Common.{◌≡◌, map, flat_map, take}
use Rattle.vale_entry.specs.Spans.{numbers_in}
use Rattle.vale_fields.specs.Fields.{span_of}
use Rattle.vale_fields.proofs.lists.numbers_of.Given as goal

abbrev pub invariant-loop-part : goal.invariant-loop-part
invariant-loop-part l = l.numbers.items ≡ flat_map numbers_in (map span_of (take l.part-index (map (λ w. w.now) l.part-items)))
