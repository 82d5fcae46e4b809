use Rattle.std.proofs.Common.{◌≡◌, ◌∙◌, arith, [], List, map, ap}
use Rattle.vale_batch.specs.declared.lists.Want.{Want}
use Rattle.vale_batch.specs.Wants.{wanted}
use Rattle.vale_steps.specs.Wanting.{wants_with}
use Rattle.vale_steps.proofs.SmallWants.{small-wants}
use Rattle.vale_steps.proofs.monitored.wants_by.Goals as goal

added : (c : goal.In_ok-add_monitor) → map wanted c.add_monitor.new.wants.items ≡ wants_with c.args.monitor c.args.sizes.items []
added c = c.in_ok-add_monitor.ensures ∙ ap (λ (ws : List Want). wants_with c.args.monitor c.args.sizes.items (map wanted ws)) c.new-wants.ensures.items

pub returns-clause-wants : goal.returns-clause-wants
returns-clause-wants c = added c

pub returns-clause-small : goal.returns-clause-small
returns-clause-small c =
    small-wants c.add_monitor.new.wants.items c.args.monitor c.args.sizes.items [] c.requires (λ k d within. absurd (omega (arith, within))) (added c)
