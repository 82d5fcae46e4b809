use Rattle.std.proofs.Common.{◌≡◌, ◌≤◌, ℕ, List, Option, None, ◌++◌, length, take, drop, refl, ap, sym, ◌∙◌, subst, arith}
use Rattle.std.proofs.lemmas.List.{length-map, length-take-le, drop-map}
use Rattle.nm_reach.specs.Fields.{Run}
use Rattle.vale_line.specs.declared.got.Got.{Got}
use Rattle.vale_line.specs.declared.lot.Lot.{Lot}
use Rattle.vale_line.specs.Cells.{AreFull, AreEmpty, SameCells, gots_in}
use Rattle.vale_line.specs.Gots.{buffers_of, buffer_of}
use Rattle.vale_line.specs.Lines.{opened_lot}
use Rattle.vale_line.specs.Rings.{held, IsHeld}
use Rattle.vale_line.proofs.RingLemmas.{pushed, pushed-line, full-front, full-rest, full-take, full-drop, blank-rest, blank-front, AreBlank}
use Rattle.vale_line.proofs.ring.Ring.lease.Goals as goal

-- what is known of the cells that are leased
pub record Leasing (c : goal.After-push_back_reserved) : Type 0 where
  pub full : AreFull c.args.self.now.idle.values
  pub enough : c.args.count ≤ length c.args.self.now.idle.values
  pub cells : SameCells (record c.args.self.now.idle { values = take c.args.count c.args.self.now.idle.values }) c.take_run-gots.new.run
  pub lot : c.new.result ≡ record { id = c.args.id; reach = c.take_run-gots.new.run; gots = None }

leasing : (c : goal.After-push_back_reserved) → Leasing c
leasing c =
    let r = c.args.self.now in
    let is = c.requires.ring in
    let none = c.requires.lent in
    let full : AreFull r.idle.values = subst (λ (l : ℕ). AreFull (drop l r.idle.values)) none is.full in
    let bufs = length-map (gots_in r.idle.values) buffer_of in
    let enough = c.requires.enough in
    record {
      full = full;
      enough = omega (arith, enough, bufs, full);
      cells = subst (λ (i : Run (Option Got)). SameCells i c.take_run-gots.new.run) c.split_front-reach.ensures.first c.take_run-gots.ensures.cells;
      lot = c.new.ensures;
    }

pub take_run-gots-requires-clause-full : goal.take_run-gots-requires-clause-full
take_run-gots-requires-clause-full c =
    let r = c.args.self.now in
    let full : AreFull r.idle.values = subst (λ (l : ℕ). AreFull (drop l r.idle.values)) c.requires.lent c.requires.ring.full in
    let first = ap (λ (i : Run (Option Got)). i.values) c.split_front-reach.ensures.first in
    subst AreFull (sym first) (full-front c.args.count r.idle.values full)

pub returns-clause-ring : goal.returns-clause-ring
returns-clause-ring c =
    let r = c.args.self.now in
    let k = c.args.count in
    let vs = r.idle.values in
    let l = leasing c in
    let none = c.requires.lent in
    let lot = c.new.result in
    let cells : SameCells (record r.idle { values = take k vs }) lot.reach = subst (λ (i : Run (Option Got)). SameCells (record r.idle { values = take k vs }) i) (sym (ap (λ (x : Lot). x.reach) l.lot)) l.cells in
    let empty : AreEmpty lot.reach.values = subst (λ (x : Lot). AreEmpty x.reach.values) (sym l.lot) c.take_run-gots.ensures.empty in
    let holds : IsHeld lot = empty in
    pushed r k r.lent c.push_back_reserved.new.self lot c.split_front-reach.new.self c.requires.ring l.enough c.push_back_reserved.ensures.items c.push_back_reserved.ensures.capacity
    c.split_front-reach.ensures.rest cells holds (omega (arith, none))
    (subst (λ (j : ℕ). AreEmpty (take j (drop k vs))) (sym none) refl)
    (subst (λ (j : ℕ). AreFull (drop j (drop k vs))) (sym none) (full-rest k vs l.full))
    (subst AreBlank (sym (full-drop k vs l.full)) (blank-rest k (gots_in vs) c.requires.ring.blank))

pub returns-clause-line : goal.returns-clause-line
returns-clause-line c =
    let l = leasing c in
    let k = c.args.count in
    let vs = c.args.self.now.idle.values in
    let now = ap (λ (i : Run (Option Got)). buffers_of (gots_in i.values)) c.split_front-reach.ensures.rest in
    let idle : buffers_of (gots_in c.split_front-reach.new.self.values) ≡ drop k (buffers_of (gots_in vs)) = now ∙ (ap buffers_of (full-drop k vs l.full) ∙ sym (drop-map buffer_of k (gots_in vs))) in
    let count : length c.take_run-gots.new.run.values ≡ k = l.cells.count ∙ length-take-le k vs l.enough in
    pushed-line c.args.self.now c.args.self.now.lent c.push_back_reserved.new.self c.new.result c.split_front-reach.new.self (drop k (buffers_of (gots_in vs))) (opened_lot c.args.id k)
    c.push_back_reserved.ensures.items idle (ap held l.lot ∙ ap (λ (j : ℕ). opened_lot c.args.id j) count)

pub returns-clause-gots : goal.returns-clause-gots
returns-clause-gots c =
    let vs = c.args.self.now.idle.values in
    let first = ap (λ (i : Run (Option Got)). gots_in i.values) c.split_front-reach.ensures.first in
    c.take_run-gots.ensures.gots ∙ (ap (λ (gs : List Got). gs ++ gots_in c.split_front-reach.result.values) c.requires.gots
    ∙ (first ∙ (full-take c.args.count vs (leasing c).full ∙ blank-front c.args.count (gots_in vs) c.requires.ring.blank)))
