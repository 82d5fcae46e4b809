use Rattle.std.proofs.Common.{◌≡◌, refl, not, rules, ◌∙◌}
use Rattle.vale_names.specs.Ports.{has_id, ports_without}
use Rattle.vale_names.proofs.GroupLemmas.{retained, held, map_same}
use Rattle.vale_names.proofs.group.Group.gone.Goals as goal

pub returns : goal.returns
returns c =
    let slots = c.self.inside.ports.slots in
    let kept = retained _ (λ p. not (has_id c.args.id.0 p)) (λ p. p) _ (λ key old keep new next called. search rules) 0 slots c.retain.new.self.slots c.retain.ensures.retained in
    let left : held c.retain.new.self.slots ≡ ports_without c.args.id.0 (held slots) = kept ∙ map_same (ports_without c.args.id.0 (held slots)) in
    rw (← c.self.view_is) (rw left refl)
