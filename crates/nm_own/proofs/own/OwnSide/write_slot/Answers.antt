use Rattle.std.proofs.Common.{◌≡◌, ◌∙◌, Some, refl, sym}
use Rattle.nm_types.specs.OwnEdits.{user_slot_at}
use Rattle.nm_own.proofs.own.OwnSide.write_slot.Goals as goal

pub returns-in-Some : goal.returns-in-Some
returns-in-Some c =
    let there : user_slot_at c.args.side c.args.self.now.own c.args.port.0 c.args.at ≡ Some c.in-Some.slot = sym c.slot_in.ensures ∙ c.in-Some.is in
    rw (c.put_slot.ensures, c.write.ensures, there) refl
