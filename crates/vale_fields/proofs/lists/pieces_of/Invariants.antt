use Rattle.std.proofs.Common.{◌≡◌, ◌==◌, ◌++◌, map, length}
use Rattle.std.specs.List.{slice_split}
use Rattle.vale_fields.proofs.lists.pieces_of.Given as goal

abbrev pub invariant-loop-piece : goal.invariant-loop-piece
invariant-loop-piece l = map (λ w. w.now) l.pieces.items ++ slice_split (λ b. b == l.mark) l.rest ≡ slice_split (λ b. b == l.mark) l.text

abbrev pub decreases-loop-piece : goal.decreases-loop-piece
decreases-loop-piece l = length l.rest
