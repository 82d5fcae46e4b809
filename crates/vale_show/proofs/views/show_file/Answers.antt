use Rattle.vale_show.proofs.Showing.{ends-read}
use Rattle.vale_show.proofs.views.show_file.Goals as goal

pub returns-in-Ok-clause-ends : goal.returns-in-Ok-clause-ends
returns-in-Ok-clause-ends g c =
    ends-read c.args.view (g.S.Shelf.files c.args.shelf.now) c.args.name.now c.in-Ok.bytes.items
    (g.S.Shelf.read_faults c.args.shelf.now c.args.name.now, g.S.Shelf.read_faults c.read_all.new.shelf c.args.name.now)
    (g.K.Sink.faults c.args.out.now, g.K.Sink.faults c.show_bytes.new.out)
    (g.K.Sink.holds c.args.out.now) (g.K.Sink.holds c.show_bytes.new.out) c.show_bytes.result
    c.in-Ok.ensures.ok c.in-Ok.ensures.short c.show_bytes.ensures
