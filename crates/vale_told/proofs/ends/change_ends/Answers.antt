use Rattle.std.proofs.Common.{rules}
use Rattle.std.proofs.lemmas.Fn.{filter_same}
use Rattle.vale_told.specs.Ends.{has_other_id}
use Rattle.vale_told.proofs.ends.change_ends.Goals as goal

pub returns-in-Shut : goal.returns-in-Shut
returns-in-Shut c =
    rw c.in-Shut.is
    (filter_same _ (has_other_id c.in-Shut.port.0) _ (λ x b q k. search rules) _ _
    c.retain.ensures.filtered)
