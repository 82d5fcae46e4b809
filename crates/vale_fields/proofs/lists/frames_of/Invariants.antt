use Rattle.std.proofs.Common.{◌≡◌, map, take}
use Rattle.vale_fields.specs.Fields.{frame_of}
use Rattle.vale_fields.proofs.lists.frames_of.Given as goal

abbrev pub invariant-loop-part : goal.invariant-loop-part
invariant-loop-part l = l.frames ≡ map frame_of (take l.part-index (map (λ w. w.now) l.part-items))
