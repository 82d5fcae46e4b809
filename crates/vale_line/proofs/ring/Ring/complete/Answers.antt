use Rattle.std.proofs.Common.{List, length, Some, refl, ap, ◌∙◌}
use Rattle.std.specs.List.{list_any}
use Rattle.std.proofs.lemmas.Bool.{both_ways}
use Rattle.std.specs.VecDeque.{deque_with_item}
use Rattle.vale_line.specs.declared.lot.Lot.{Lot}
use Rattle.vale_line.specs.Lines.{HeldLot, is_out_at}
use Rattle.vale_line.specs.Rings.{held_lots, ring_state}
use Rattle.vale_line.proofs.LotLemmas.{slots-out}
use Rattle.vale_line.proofs.RingLemmas.{held-found, held-none, held-completed, none-found, done_at}
use Rattle.vale_line.proofs.ring.Ring.complete.Goals as goal

pub unreachable-requires : goal.unreachable-requires
unreachable-requires c =
    let lots = c.args.self.now.lots.items in
    let id = c.args.id.0 in
    both_ways (list_any (is_out_at id) (held_lots lots)) (held-none id lots c.in-None.ensures.none) (slots-out id (length c.args.gots.items) (held_lots lots) c.requires.out)

pub complete-requires : goal.complete-requires
complete-requires c =
    let lots = c.args.self.now.lots.items in
    let lot = c.index_mut.result.now in
    record { out = ap (λ (l : Lot). l.gots) c.index_mut.ensures.value ∙ none-found c.args.id.0 lots c.in-Some.at lot c.in-Some.ensures.within c.in-Some.ensures.found }

pub returns-clause-ring : goal.returns-clause-ring
returns-clause-ring c =
    let r = c.args.self.now in
    let now = c.complete.new.self in
    let same = ap (λ (l : Lot). l.reach) c.complete.ensures ∙ ap (λ (l : Lot). l.reach) c.index_mut.ensures.value in
    done_at r (deque_with_item r.lots c.in-Some.at now) c.in-Some.at c.index_mut.result.now now c.requires.ring c.in-Some.ensures.within refl refl same

pub returns-clause-line : goal.returns-clause-line
returns-clause-line c =
    let r = c.args.self.now in
    let at = c.in-Some.at in
    let lot = c.index_mut.result.now in
    let now = c.complete.new.self in
    let out = held-found c.args.id.0 r.lots.items at lot c.in-Some.ensures.within c.in-Some.ensures.found in
    let is = c.complete.ensures ∙ ap (λ (l : Lot). record l { gots = Some c.args.gots }) c.index_mut.ensures.value in
    ap (λ (ls : List HeldLot). record (ring_state r) { lots = ls }) (held-completed r.lots.items c.args.id.0 at c.args.gots lot now c.requires.leases c.in-Some.ensures.within out is)
