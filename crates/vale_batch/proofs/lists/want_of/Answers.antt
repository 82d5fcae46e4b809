use Rattle.std.proofs.Common.{◌≡◌, ◌∙◌, [], length, ap, sym, subst, rules}
use Rattle.std.specs.Prelude.{IfOk}
use Rattle.vale_batch.specs.Wants.{Wanted, wanted, want_of}
use Rattle.vale_batch.proofs.Merging.{none-there, want-own}
use Rattle.vale_batch.proofs.lists.want_of.Goals as goal

pub returns-then-is_empty : goal.returns-then-is_empty
returns-then-is_empty c =
    let to = c.args.to in
    let own = c.args.own.now in
    let count : length c.args.flooded.now ≡ 0 = search rules in
    let none = none-there c.args.flooded.now count in
    let same : want_of to [] own ≡ want_of to own c.args.flooded.now = want-own to own ∙ ap (want_of to own) (sym none) in
    subst (λ (w : Wanted). IfOk c.want_just.result (λ want. wanted want ≡ w)) same c.want_just.ensures
