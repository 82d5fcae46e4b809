use Rattle.vale_show.proofs.Pages.{adds-refusal, adds-refusals}
use Rattle.vale_show.proofs.refusals.add_refusals.Goals as goal

pub loop-i-preserved : goal.loop-i-preserved
loop-i-preserved c =
    adds-refusal c.args.entries.now c.loop-i.i c.index-entries-i.result c.args.page.now.bytes
    c.loop-i.page.bytes c.add_refusal.new.page.bytes c.loop-i-test.true c.index-entries-i.is
    c.loop-i.invariant c.in_ok-add_refusal.ensures

pub returns : goal.returns
returns c =
    adds-refusals c.args.entries.now c.loop-i.i c.args.page.now.bytes c.loop-i.page.bytes
    c.loop-i-test.false c.loop-i.invariant
