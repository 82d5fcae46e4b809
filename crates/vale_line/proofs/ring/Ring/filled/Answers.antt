use Rattle.std.proofs.Common.{◌≡◌, ◌≤◌, ℕ, List, Option, [], length, subst, ap, sym, ◌∙◌}
use Rattle.std.proofs.lemmas.List.{length-map}
use Rattle.std.specs.VecDeque.{deque_capacity}
use Rattle.nm_types.specs.Limits.{most_ring}
use Rattle.nm_reach.specs.Fields.{Run, FieldState}
use Rattle.nm_region.specs.Buffers.{Buffer}
use Rattle.vale_line.specs.declared.got.Got.{Got}
use Rattle.vale_line.specs.declared.lot.Lot.{Lot}
use Rattle.vale_line.specs.Cells.{gots_in, AreFull}
use Rattle.vale_line.specs.Gots.{buffers_of, buffer_of}
use Rattle.vale_line.specs.Lines.{HeldLot}
use Rattle.vale_line.specs.Rings.{held_lots}
use Rattle.vale_line.proofs.RingLemmas.{AreBlank, first_ring}
use Rattle.vale_line.proofs.ring.Ring.filled.Goals as goal

pub returns-clause-ring : goal.returns-clause-ring
returns-clause-ring c =
    let q = c.requires in
    let made = c.in-Ok.ensures in
    let f = c.in-Ok.made.0 in
    let r = c.in-Ok.made.1 in
    let size : f.size ≡ length c.args.cells.items = ap (λ (s : FieldState). s.size) made.field in
    let values : r.values ≡ c.args.cells.items = ap (λ (s : Run (Option Got)). s.values) made.all in
    let few = subst (λ (n : ℕ). 1 ≤ n) (sym size) q.size.0 in
    first_ring f r c.split_front-given.result c.split_front-given.new.self c.args.lots few (subst (λ (n : ℕ). n ≤ most_ring) (sym size) q.size.1)
    (ap (λ (s : Run (Option Got)). s.field) made.all ∙ sym (ap (λ (s : FieldState). s.field) made.field)) (ap (λ (s : Run (Option Got)). s.size) made.all ∙ sym size) (ap length values ∙ sym size)
    (ap (λ (s : Run (Option Got)). s.start) made.all) q.lots (subst (λ (n : ℕ). n ≤ deque_capacity c.args.lots) (sym size) q.room)
    (subst AreFull (sym values) q.full) (subst (λ (cs : List (Option Got)). AreBlank (gots_in cs)) (sym values) q.blank)
    c.split_front-given.ensures.first c.split_front-given.ensures.rest

pub returns-clause-line : goal.returns-clause-line
returns-clause-line c =
    let made = c.in-Ok.ensures in
    let bufs = buffers_of (gots_in c.args.cells.items) in
    let values = ap (λ (s : Run (Option Got)). s.values) c.split_front-given.ensures.rest ∙ ap (λ (s : Run (Option Got)). s.values) made.all in
    let idle = ap (λ (cs : List (Option Got)). buffers_of (gots_in cs)) values in
    let size = ap (λ (s : FieldState). s.size) made.field ∙ (sym c.requires.full ∙ sym (length-map (gots_in c.args.cells.items) buffer_of)) in
    let none = ap (λ (ls : List Lot). held_lots ls) c.requires.lots in
    let held : List HeldLot = [] in
    ap (λ (bs : List Buffer). record { size = c.in-Ok.made.0.size; idle = bs; lots = held_lots c.args.lots.items }) idle
    ∙ (ap (λ (ls : List HeldLot). record { size = c.in-Ok.made.0.size; idle = bufs; lots = ls }) none ∙ ap (λ (n : ℕ). record { size = n; idle = bufs; lots = held }) size)
