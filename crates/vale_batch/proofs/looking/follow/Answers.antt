use Rattle.std.proofs.Common.{ap, sym, ◌∙◌}
use Rattle.nm_types.specs.Frames.{Frame}
use Rattle.vale_learn.specs.AddressTable.{Entries}
use Rattle.vale_batch.specs.Looking.{learned_from}
use Rattle.vale_batch.proofs.Following.{taught_once}
use Rattle.vale_batch.proofs.looking.follow.Goals as goal

pub returns-clause-known : goal.returns-clause-known
returns-clause-known c =
    let from = c.args.from in
    let frame : Frame = record { bytes = c.args.bytes.now; no_learn = c.args.no_learn } in
    let taught = c.in_ok-learn.ensures.table in
    taught ∙ (sym (taught_once from c.args.table.now frame) ∙ ap (λ (t : Entries). learned_from from t frame) (sym taught))
