use Rattle.std.proofs.Common.{◌≡◌, arith}
use Rattle.std.proofs.lemmas.List.Edits.{map_over_more}
use Rattle.vale_names.specs.Switches.{shut_place}
use Rattle.vale_names.proofs.switch.shut_on_switches.Goals as goal

pub loop-place-preserved : goal.loop-place-preserved
loop-place-preserved c =
    let changed : c.shut.new.self ≡ shut_place c.args.id.0 c.place-item.result = rw (← c.place-item.is) at c.shut.ensures in
    rw changed (map_over_more (shut_place c.args.id.0) c.args.places.now c.loop-place.places c.loop-place.place-index c.place-item.result (omega arith) c.loop-place.invariant c.place-item.is)
