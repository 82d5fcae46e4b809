use Rattle.std.proofs.Common.{true, ◌≡◌, sym, ◌∙◌, ap}
use Rattle.std.specs.List.{list_any}
use Rattle.nm_types.specs.declared.id.PortId.{PortId}
use Rattle.vale_batch.specs.Wants.{is_other}
use Rattle.vale_batch.proofs.ToOthers.{lone-none}
use Rattle.vale_batch.proofs.lookup.Lookup.flood_lone.Goals as goal

pub returns-then-has_others-clause-lone : goal.returns-then-has_others-clause-lone
returns-then-has_others-clause-lone c =
    let s = c.args.self.now in
    let others : list_any (is_other s.from) c.args.ports.now ≡ true =
    ap (λ (port : PortId). list_any (is_other port) c.args.ports.now) (sym c.from.ensures) ∙ (sym c.has_others.ensures ∙ c.if-has_others.true) in
    lone-none s.from c.args.ports.now s.all c.requires.all others
