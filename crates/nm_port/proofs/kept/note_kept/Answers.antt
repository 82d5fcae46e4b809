use Rattle.std.proofs.Common.{ℕ, ◌∙◌, List, length, ap}
use Rattle.nm_hold.specs.Holds.{AreNumbers}
use Rattle.nm_port.proofs.Unmoved.{kept_exchanged, kept_swapped, names_count}
use Rattle.nm_port.proofs.kept.note_kept.Goals as goal

pub returns-in-Some-clause-exchanged : goal.returns-in-Some-clause-exchanged
returns-in-Some-clause-exchanged c =
    let h = c.args.hold.now in
    let r = c.args.ring.now in
    let numbered : AreNumbers h r.side c.args.port c.in-Some.numbers.now = rw (c.in-Some.is, c.side.ensures) at c.numbers.ensures.numbers in
    kept_exchanged h c.args.port r c.requires.ring c.requires.can c.in-Some.numbers.now numbered c.note_names.result c.note_names.ensures.few c.note_names.ensures.kept

pub returns-in-Some-clause-swapped : goal.returns-in-Some-clause-swapped
returns-in-Some-clause-swapped c =
    let h = c.args.hold.now in
    let r = c.args.ring.now in
    let numbered : AreNumbers h r.side c.args.port c.in-Some.numbers.now = rw (c.in-Some.is, c.side.ensures) at c.numbers.ensures.numbers in
    rw c.note_names.ensures.names
    (kept_swapped h c.args.port r c.requires.ring c.requires.can c.in-Some.numbers.now numbered c.note_names.result c.note_names.ensures.few c.note_names.ensures.kept)

pub returns-in-Some-clause-count : goal.returns-in-Some-clause-count
returns-in-Some-clause-count c = ap (λ (xs : List ℕ). length xs) c.note_names.ensures.names ∙ names_count c.args.ring.now c.note_names.result
