use Rattle.vale_show.proofs.Showing.{ends-shown}
use Rattle.vale_show.proofs.views.show_bytes.Goals as goal

pub returns-in-Ok : goal.returns-in-Ok
returns-in-Ok g c =
    let text = c.in-Ok.text in
    ends-shown c.args.view c.args.bytes.items c.args.name.now
    (g.K.Sink.faults c.args.out.now, g.K.Sink.faults c.show_text.new.out)
    (g.K.Sink.holds c.args.out.now) (g.K.Sink.holds c.show_text.new.out) text.version text.pool
    text.entries.items text.free c.show_text.result c.in-Ok.ensures.ok c.show_text.ensures
