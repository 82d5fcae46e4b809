use Rattle.std.proofs.Common.{◌≡◌, ℕ, List, Option, ◌++◌, drop, ap, sym, ◌∙◌, subst, arith}
use Rattle.std.proofs.lemmas.List.{length-map, drop-map, take-map}
use Rattle.nm_reach.specs.Fields.{Run}
use Rattle.nm_region.specs.Buffers.{Buffer}
use Rattle.vale_line.specs.declared.got.Got.{Got}
use Rattle.vale_line.specs.Cells.{AreFull, SameCells, gots_in}
use Rattle.vale_line.specs.Gots.{buffers_of, buffer_of}
use Rattle.vale_line.specs.Rings.{held_lots}
use Rattle.vale_line.proofs.CellLemmas.{gots-append}
use Rattle.vale_line.proofs.RingLemmas.{lent_out, full-front, full-take, full-drop}
use Rattle.vale_line.proofs.ring.Ring.lend.Goals as goal

pub take_run_bufs-requires-clause-full : goal.take_run_bufs-requires-clause-full
take_run_bufs-requires-clause-full c =
    let r = c.args.self.now in
    let full : AreFull r.idle.values = subst (λ (l : ℕ). AreFull (drop l r.idle.values)) c.requires.settled c.requires.ring.full in
    subst AreFull (sym (ap (λ (i : Run (Option Got)). i.values) c.split_front-lent.ensures.first)) (full-front c.args.k r.idle.values full)

pub returns-clause-ring : goal.returns-clause-ring
returns-clause-ring c =
    let r = c.args.self.now in
    let full : AreFull r.idle.values = subst (λ (l : ℕ). AreFull (drop l r.idle.values)) c.requires.settled c.requires.ring.full in
    let bufs = length-map (gots_in r.idle.values) buffer_of in
    let enough = c.requires.enough in
    let cells = subst (λ (i : Run (Option Got)). SameCells i c.take_run_bufs.new.run) c.split_front-lent.ensures.first c.take_run_bufs.ensures.cells in
    lent_out r c.args.k c.take_run_bufs.new.run c.split_front-lent.new.self c.join.new.self c.requires.ring c.requires.settled (omega (arith, enough, bufs, full)) cells c.take_run_bufs.ensures.empty
    (ap (λ (i : Run (Option Got)). i.values) c.split_front-lent.ensures.rest)
    (c.join.ensures ∙ (ap (λ (i : Run (Option Got)). record i { values = i.values ++ c.replace-rest.result.values }) c.replace-rest.ensures.after
    ∙ ap (λ (i : Run (Option Got)). record c.take_run_bufs.new.run { values = c.take_run_bufs.new.run.values ++ i.values }) c.replace-rest.ensures.value))

pub returns-clause-line : goal.returns-clause-line
returns-clause-line c =
    let r = c.args.self.now in
    let k = c.args.k in
    let vs = r.idle.values in
    let run = c.take_run_bufs.new.run in
    let full : AreFull vs = subst (λ (l : ℕ). AreFull (drop l vs)) c.requires.settled c.requires.ring.full in
    let rest = ap (λ (i : Run (Option Got)). i.values) c.split_front-lent.ensures.rest in
    let now = ap (λ (i : Run (Option Got)). gots_in i.values)
    (c.join.ensures ∙ (ap (λ (i : Run (Option Got)). record i { values = i.values ++ c.replace-rest.result.values }) c.replace-rest.ensures.after
    ∙ ap (λ (i : Run (Option Got)). record c.take_run_bufs.new.run { values = c.take_run_bufs.new.run.values ++ i.values }) c.replace-rest.ensures.value)) in
    let gots : gots_in c.join.new.self.values ≡ drop k (gots_in vs) =
    now ∙ (gots-append run.values c.split_front-lent.new.self.values
    ∙ (ap (λ (l : List Got). l ++ gots_in c.split_front-lent.new.self.values) c.take_run_bufs.ensures.empty ∙ (ap gots_in rest ∙ full-drop k vs full))) in
    ap (λ (l : List Buffer). record { size = r.field.size; idle = l; lots = held_lots r.lots.items }) (ap buffers_of gots ∙ sym (drop-map buffer_of k (gots_in vs)))

pub returns-clause-lent : goal.returns-clause-lent
returns-clause-lent c =
    let r = c.args.self.now in
    let k = c.args.k in
    let vs = r.idle.values in
    let full : AreFull vs = subst (λ (l : ℕ). AreFull (drop l vs)) c.requires.settled c.requires.ring.full in
    let first = ap (λ (i : Run (Option Got)). buffers_of (gots_in i.values)) c.split_front-lent.ensures.first in
    c.take_run_bufs.ensures.bufs ∙ (ap (λ (l : List Buffer). l ++ buffers_of (gots_in c.split_front-lent.result.values)) c.requires.lent
    ∙ (first ∙ (ap buffers_of (full-take k vs full) ∙ sym (take-map buffer_of k (gots_in vs)))))
