use Rattle.std.proofs.Common.{◌≡◌, refl, true, map, rules, ◌∙◌, ap}
use Rattle.vale_names.specs.Ports.{shut_at, shut_in}
use Rattle.vale_names.proofs.GroupLemmas.{retained, held, filter_all}
use Rattle.vale_names.proofs.group.Group.shut.Goals as goal

pub returns : goal.returns
returns c =
    let slots = c.self.inside.ports.slots in
    let kept = retained _ (λ p. true) (shut_at c.args.id.0) _ (λ key old keep new next called. search rules) 0 slots c.retain.new.self.slots c.retain.ensures.retained in
    let left : held c.retain.new.self.slots ≡ shut_in c.args.id.0 (held slots) = kept ∙ ap (map (shut_at c.args.id.0)) (filter_all (held slots)) in
    rw (← c.self.view_is) (rw left refl)
