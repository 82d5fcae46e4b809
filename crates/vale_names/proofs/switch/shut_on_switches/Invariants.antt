use Rattle.std.proofs.Common.{◌≡◌, ◌++◌, map, take, drop}
use Rattle.vale_names.specs.Switches.{shut_place}
use Rattle.vale_names.proofs.switch.shut_on_switches.Given as goal

abbrev pub invariant-loop-place : goal.invariant-loop-place
invariant-loop-place l = l.places ≡ map (shut_place l.id.0) (take l.place-index l.fn.places) ++ drop l.place-index l.fn.places
