use Rattle.std.proofs.Common.{◌≡◌, ◌++◌, map, take, drop}
use Rattle.vale_player.specs.Kept.{grown_if}
use Rattle.vale_player.proofs.kept.grow_all.Given as goal

abbrev pub invariant-loop-one : goal.invariant-loop-one
invariant-loop-one l = l.kept ≡ map (grown_if l.session.own l.port.0 l.tail l.received) (take l.one-index l.fn.kept) ++ drop l.one-index l.fn.kept
