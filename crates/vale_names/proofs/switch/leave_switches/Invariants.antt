use Rattle.std.proofs.Common.{◌≡◌, ◌++◌, map, take, drop}
use Rattle.vale_names.specs.Switches.{place_without}
use Rattle.vale_names.proofs.switch.leave_switches.Given as goal

abbrev pub invariant-loop-place : goal.invariant-loop-place
invariant-loop-place l = l.places ≡ map (place_without l.id.0) (take l.place-index l.fn.places) ++ drop l.place-index l.fn.places
