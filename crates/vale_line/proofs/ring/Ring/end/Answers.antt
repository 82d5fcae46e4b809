use Rattle.std.proofs.Common.{◌-◌, ◌∙◌, Option, take, drop, ap, sym, subst}
use Rattle.nm_reach.specs.Fields.{Run}
use Rattle.vale_line.specs.declared.got.Got.{Got}
use Rattle.vale_line.specs.Cells.{AreEmpty, gots_in}
use Rattle.vale_line.proofs.CellLemmas.{empty-both}
use Rattle.vale_line.proofs.RingLemmas.{no-lots, no-bufs, empty-rest, empty-front}
use Rattle.vale_line.proofs.ring.Ring.end.Goals as goal

pub destroy_empty-requires : goal.destroy_empty-requires
destroy_empty-requires c = c.args.self.lots.ok.0 ∙ no-lots c.args.self.lots.items c.requires.lots

pub end_cells-requires : goal.end_cells-requires
end_cells-requires c =
    let r = c.args.self in
    let idle : AreEmpty r.idle.values = no-bufs (gots_in r.idle.values) c.requires.idle in
    let all = c.join.new.self in
    let values = ap (λ (i : Run (Option Got)). i.values) c.join.ensures in
    let empty : AreEmpty all.values = subst AreEmpty (sym values) (empty-both r.given.values r.idle.values c.requires.ring.none idle) in
    let k = all.size - all.start in
    subst AreEmpty (sym c.close.ensures.values) (empty-both (drop k all.values) (take k all.values) (empty-rest k all.values empty) (empty-front k all.values empty))
