use Rattle.std.proofs.Common.{◌≡◌, List, [], ◌∷◌}
use Rattle.nm_hold.specs.declared.table.PortPlaces.{PortPlaces}
use Rattle.nm_hold.specs.Holds.{buffers_of}
use Rattle.own_tests.proofs.port.pushes_are_checked.Given as goal

abbrev one_port : List PortPlaces
one_port = record { port = record { 0 = 2 }; sizes = record { tx = 4; rx = 4; extra = 0 } } ∷ []

abbrev pub invariant-loop-at : goal.invariant-loop-at
invariant-loop-at g l = record { pool : buffers_of l.hold ≡ 64; ports : l.hold.ports ≡ one_port }
