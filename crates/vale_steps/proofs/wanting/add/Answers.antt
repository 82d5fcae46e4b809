use Rattle.std.proofs.Common.{◌∙◌, ap, sym, List, map}
use Rattle.std.specs.Prelude.{position}
use Rattle.vale_batch.specs.declared.lists.Want.{Want}
use Rattle.vale_batch.specs.Wants.{wanted}
use Rattle.vale_steps.specs.Wanting.{is_behind}
use Rattle.vale_steps.proofs.MonitoredWants.{put-before, put-last}
use Rattle.vale_steps.proofs.wanting.add.Goals as goal

pub returns-in_ok-insert-in-Some : goal.returns-in_ok-insert-in-Some
returns-in_ok-insert-in-Some c =
    let here = c.in-Some.ensures ∙ ap (λ (ws : List Want). position (is_behind c.args.want.to.0) ws) c.deref.ensures.value in
    ap (map wanted) c.in_ok-insert-in-Some.ensures.items ∙ put-before c.args.want c.args.wants.now.items c.in-Some.place (sym here)

pub returns-in_ok-push-in-None : goal.returns-in_ok-push-in-None
returns-in_ok-push-in-None c =
    let none = c.in-None.ensures ∙ ap (λ (ws : List Want). position (is_behind c.args.want.to.0) ws) c.deref.ensures.value in
    ap (map wanted) c.in_ok-push-in-None.ensures.items ∙ put-last c.args.want c.args.wants.now.items (sym none)
