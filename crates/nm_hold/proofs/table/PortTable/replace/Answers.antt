use Rattle.std.proofs.Common.{◌≡◌, ◌<◌, ◌∙◌, length, Some, refl, arith}
use Rattle.std.proofs.lemmas.List.{get_or_read}
use Rattle.nm_hold.specs.Offsets.{offset_of}
use Rattle.nm_hold.proofs.Spots.{offset-within}
use Rattle.nm_hold.proofs.table.PortTable.replace.Goals as goal

pub returns-in-Some-clause-number : goal.returns-in-Some-clause-number
returns-in-Some-clause-number c =
    let here : offset_of c.args.self.now.places c.args.place ≡ Some c.in-Some.at = cc in
    let within : c.in-Some.at < length c.args.self.now.numbers.items = omega (arith, offset-within c.args.self.now.places c.args.place c.in-Some.at here, c.requires.full) in
    rw here (c.replace.ensures.value ∙ get_or_read c.args.self.now.numbers.items c.in-Some.at c.index_mut.result.now within c.index_mut.ensures.value 0)

pub returns-in-Some-clause-table : goal.returns-in-Some-clause-table
returns-in-Some-clause-table c =
    let here : offset_of c.args.self.now.places c.args.place ≡ Some c.in-Some.at = cc in
    rw (here, c.replace.ensures.after) refl
