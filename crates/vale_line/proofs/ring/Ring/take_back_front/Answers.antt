use Rattle.std.proofs.Common.{◌≡◌, List, Option, ◌++◌, take, ap, sym, ◌∙◌, subst, arith}
use Rattle.std.proofs.lemmas.List.{map-append}
use Rattle.nm_reach.specs.Fields.{Run}
use Rattle.nm_region.specs.Buffers.{Buffer}
use Rattle.vale_line.specs.declared.got.Got.{Got}
use Rattle.vale_line.specs.Cells.{AreEmpty, SameCells, gots_in}
use Rattle.vale_line.specs.Gots.{buffers_of, buffer_of}
use Rattle.vale_line.specs.Rings.{held_lots}
use Rattle.vale_line.proofs.CellLemmas.{gots-append}
use Rattle.vale_line.proofs.Moving.{buffers-blank}
use Rattle.vale_line.proofs.RingLemmas.{came_back, empty-front}
use Rattle.vale_line.proofs.ring.Ring.take_back_front.Goals as goal

pub put_run_bufs-requires-clause-empty : goal.put_run_bufs-requires-clause-empty
put_run_bufs-requires-clause-empty c =
    let r = c.args.self.now in
    let first = ap (λ (i : Run (Option Got)). i.values) c.split_front-reach.ensures.first in
    subst AreEmpty (sym first) (empty-front c.len.result r.given.values c.requires.ring.none)

pub returns-clause-ring : goal.returns-clause-ring
returns-clause-ring c =
    let r = c.args.self.now in
    let cells : SameCells (record r.given { values = take c.len.result r.given.values }) c.put_run_bufs.new.run =
    subst (λ (i : Run (Option Got)). SameCells i c.put_run_bufs.new.run) c.split_front-reach.ensures.first c.put_run_bufs.ensures.cells in
    came_back r c.len.result c.args.back.items c.put_run_bufs.new.run c.split_front-reach.new.self c.join.new.self c.requires.ring (let few = c.requires.few in let len = c.len.ensures in let same = c.args.back.ok.0 in omega (arith, few, len, same)) (sym c.args.back.ok.0 ∙ sym c.len.ensures) c.split_front-reach.ensures.rest cells c.put_run_bufs.ensures.gots c.join.ensures

pub returns-clause-line : goal.returns-clause-line
returns-clause-line c =
    let r = c.args.self.now in
    let run = c.put_run_bufs.new.run in
    let back = c.args.back.items in
    let now = ap (λ (i : Run (Option Got)). i.values) c.join.ensures in
    let bufs : buffers_of (gots_in c.join.new.self.values) ≡ buffers_of (gots_in r.idle.values) ++ back =
    ap (λ (l : List (Option Got)). buffers_of (gots_in l)) now
    ∙ (ap buffers_of (gots-append r.idle.values run.values)
    ∙ (map-append buffer_of (gots_in r.idle.values) (gots_in run.values)
    ∙ ap (λ (l : List Buffer). buffers_of (gots_in r.idle.values) ++ l) (ap buffers_of c.put_run_bufs.ensures.gots ∙ buffers-blank back))) in
    ap (λ (l : List Buffer). record { size = r.field.size; idle = l; lots = held_lots r.lots.items }) bufs
