use Rattle.std.proofs.Common.{◌+◌, ◌++◌, ap, ◌∙◌}
use Rattle.std.specs.Option.{option_to_list}
use Rattle.vale_told.specs.Told.{told_of}
use Rattle.vale_told.specs.ByPort.{told_in}
use Rattle.vale_told.specs.Ports.{port_opened, ports_told}
use Rattle.vale_told.proofs.Listing.{listed-more, listed-all, port_by-same}
use Rattle.vale_told.proofs.opened.ports.Goals as goal

pub loop-i-preserved : goal.loop-i-preserved
loop-i-preserved c =
    let entry = c.index-entries-i.result in
    listed-more (port_opened (told_of c.args.entries.now)) c.args.entries.now c.loop-i.i entry
    (ports_told c.args.entries.now) c.loop-i.ports.items c.push_some.new.items.items
    c.loop-i-test.true c.index-entries-i.is c.loop-i.invariant
    (c.in_ok-push_some.ensures
    ∙ ap (λ found. c.loop-i.ports.items ++ option_to_list found)
    (c.port_opened.ensures
    ∙ port_by-same (told_in c.in_ok-by_port.by_port) (told_of c.args.entries.now) c.in_ok-by_port.ensures (c.loop-i.i + 1) entry.ask entry.reply))

pub returns : goal.returns
returns c =
    listed-all (port_opened (told_of c.args.entries.now)) c.args.entries.now c.loop-i.i
    (ports_told c.args.entries.now) c.loop-i.ports.items c.loop-i-test.false c.loop-i.invariant
