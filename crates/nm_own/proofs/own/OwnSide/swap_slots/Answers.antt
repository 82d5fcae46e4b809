use Rattle.std.proofs.Common.{◌≡◌, ◌∙◌, Some, refl, sym}
use Rattle.nm_types.specs.OwnEdits.{slot_of_place}
use Rattle.nm_own.specs.Acts.{place_seen}
use Rattle.nm_own.proofs.own.OwnSide.swap_slots.Goals as goal

pub returns-in-Some-slot_in : goal.returns-in-Some-slot_in
returns-in-Some-slot_in c =
    let one : slot_of_place c.args.self.now.own (place_seen c.args.here) ≡ Some c.in-Some.one = sym c.slot_in.ensures ∙ c.in-Some.is in
    let two : slot_of_place c.args.self.now.own (place_seen c.args.there) ≡ Some c.in-Some-slot_in.two = sym c.slot_in-in-Some.ensures ∙ c.in-Some-slot_in.is in
    rw (c.put_slot-in-Some-slot_in.ensures, c.put_slot.ensures, c.naming-in-Some-slot_in.ensures, c.naming.ensures, one, two) refl
