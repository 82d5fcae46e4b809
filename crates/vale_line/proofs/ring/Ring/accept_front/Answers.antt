use Rattle.std.proofs.Common.{◌≡◌, ◌≤◌, ◌+◌, ◌-◌, ℕ, List, Option, Some, ◌++◌, length, take, drop, ap, sym, ◌∙◌, subst, arith}
use Rattle.std.proofs.lemmas.List.{length-take-le, length-drop, take-append-drop, drop-drop}
use Rattle.std.proofs.Math.Seq.{take-add}
use Rattle.nm_reach.specs.Fields.{Run}
use Rattle.vale_line.specs.declared.got.Got.{Got}
use Rattle.vale_line.specs.declared.lot.Lot.{Lot}
use Rattle.vale_line.specs.Cells.{AreFull, AreEmpty, SameCells, gots_in}
use Rattle.vale_line.specs.Gots.{buffers_of}
use Rattle.vale_line.specs.Lines.{put_lot}
use Rattle.vale_line.specs.Rings.{held, IsHeld}
use Rattle.vale_line.proofs.CellLemmas.{empty-parts, gots-append}
use Rattle.vale_line.proofs.RingLemmas.{pushed, pushed-line, same-run, AreBlank}
use Rattle.vale_line.proofs.ring.Ring.accept_front.Goals as goal
use Rattle.vale_line.proofs.ring.Ring.accept_front.Goals.{After-len-count}

-- the first k of the empty cells at the front, and what is behind them
pub record Front (k lent : ℕ) (vs : List (Option Got)) : Type 0 where
  pub empty : AreEmpty (take k vs)
  pub left : AreEmpty (take (lent - k) (drop k vs))
  pub rest : drop (lent - k) (drop k vs) ≡ drop lent vs
  pub gots : gots_in (drop k vs) ≡ gots_in vs

front : (k lent : ℕ) (vs : List (Option Got)) → k ≤ lent → AreEmpty (take lent vs) → Front k lent vs
front k lent vs few empty =
    let sum : k + (lent - k) ≡ lent = omega (arith, few) in
    let cut : take lent vs ≡ take k vs ++ take (lent - k) (drop k vs) = ap (λ (j : ℕ). take j vs) (sym sum) ∙ take-add k (lent - k) vs in
    let both = empty-parts (take k vs) (take (lent - k) (drop k vs)) (subst AreEmpty cut empty) in
    record {
      empty = both.0;
      left = both.1;
      rest = drop-drop (lent - k) k vs ∙ ap (λ (j : ℕ). drop j vs) sum;
      gots = ap (λ (gs : List Got). gs ++ gots_in (drop k vs)) (sym both.0) ∙ (sym (gots-append (take k vs) (drop k vs)) ∙ ap gots_in (take-append-drop k vs));
    }

fits : (c : After-len-count) → c.len-count.result ≤ c.args.self.now.lent
fits c = let few = c.requires.few in let len = c.len-count.ensures in let same = c.args.gots.ok.0 in omega (arith, few, len, same)

pub returns-clause-ring : goal.returns-clause-ring
returns-clause-ring c =
    let r = c.args.self.now in
    let k = c.len-count.result in
    let vs = r.idle.values in
    let within = c.requires.ring.lent_within in
    let few = fits (goal.at.returns-clause-ring c).After-len-count in
    let f = front k r.lent vs few c.requires.ring.lent in
    let lot = c.done.result in
    let was : lot.reach ≡ record r.idle { values = take k vs } = ap (λ (x : Lot). x.reach) c.done.ensures ∙ c.split_front-reach.ensures.first in
    let cells : SameCells (record r.idle { values = take k vs }) lot.reach = subst (λ (i : Run (Option Got)). SameCells (record r.idle { values = take k vs }) i) (sym was) (same-run (record r.idle { values = take k vs })) in
    let holds : IsHeld lot = subst (λ (i : Run (Option Got)). AreEmpty i.values) (sym was) f.empty in
    let left = length-drop k vs in
    pushed r k (r.lent - k) c.push_back_reserved.new.self lot c.split_front-reach.new.self c.requires.ring (omega (arith, few, within)) c.push_back_reserved.ensures.items c.push_back_reserved.ensures.capacity
    c.split_front-reach.ensures.rest cells holds (omega (arith, left, within, few)) f.left (subst AreFull (sym f.rest) c.requires.ring.full)
    (subst AreBlank (sym f.gots) c.requires.ring.blank)

pub returns-clause-line : goal.returns-clause-line
returns-clause-line c =
    let few = fits (goal.at.returns-clause-line c).After-len-count in
    let k = c.len-count.result in
    let vs = c.args.self.now.idle.values in
    let within = c.requires.ring.lent_within in
    let front_len = length-take-le k vs (omega (arith, few, within)) in
    let len = c.len-count.ensures in
    let same = c.args.gots.ok.0 in
    let first : length c.split_front-reach.result.values ≡ length c.args.gots.items = ap (λ (i : Run (Option Got)). length i.values) c.split_front-reach.ensures.first ∙ omega (arith, front_len, len, same) in
    let now = ap (λ (i : Run (Option Got)). buffers_of (gots_in i.values)) c.split_front-reach.ensures.rest in
    pushed-line c.args.self.now c.args.self.now.lent c.push_back_reserved.new.self c.done.result c.split_front-reach.new.self (buffers_of (gots_in vs)) (put_lot c.args.id c.args.gots.items)
    c.push_back_reserved.ensures.items (now ∙ ap buffers_of (front k c.args.self.now.lent vs few c.requires.ring.lent).gots)
    (ap held c.done.ensures ∙ ap (λ (n : ℕ). record { id = c.args.id; slots = n; gots = Some c.args.gots.items }) first)
