use Rattle.std.proofs.Common.{◌≡◌, ◌+◌, List, subst}
use Rattle.vale_told.specs.declared.ends.End.{End}
use Rattle.vale_told.specs.Told.{told_of, told_both, told_by}
use Rattle.vale_told.specs.ByPort.{told_in}
use Rattle.vale_told.proofs.Telling.{told-goes_on, told-ends}
use Rattle.vale_told.proofs.told.told_by_port.Goals as goal

pub loop-i-preserved : goal.loop-i-preserved
loop-i-preserved c = λ port.
    let entry = c.index-entries-i.result in
    told-goes_on c.args.entries.now c.loop-i.i entry c.loop-i.ends.items
    c.change_ends.new.ends.items (told_of c.args.entries.now port) (told_in c.loop-i.by_port port)
    (told_in c.note.new.by_port port) port c.loop-i-test.true c.index-entries-i.is
    c.in_ok-change_ends.ensures (c.loop-i.invariant port)
    (subst
    (λ (ends : List End).
    told_in c.note.new.by_port port
    ≡ told_both (told_in c.loop-i.by_port port) (told_by (c.loop-i.i + 1) ends entry.ask entry.reply port))
    c.deref.ensures.value (c.in_ok-note.ensures port))

pub returns : goal.returns
returns c = λ port.
    told-ends c.args.entries.now c.loop-i.i c.loop-i.ends.items (told_of c.args.entries.now port)
    (told_in c.loop-i.by_port port) port c.loop-i-test.false (c.loop-i.invariant port)
