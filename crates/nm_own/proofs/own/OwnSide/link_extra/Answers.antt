use Rattle.std.proofs.Common.{◌∙◌, ap, sym, arith}
use Rattle.nm_own.proofs.Linking.{extra_linked}
use Rattle.nm_types.specs.OwnPorts.{OwnState}
use Rattle.nm_own.proofs.own.OwnSide.link_extra.Goals as goal

pub returns-else-from-eq0 : goal.returns-else-from-eq0
returns-else-from-eq0 c =
    c.relink.ensures
    ∙ ap (λ (o : OwnState). record c.args.self.now { own = o }) (extra_linked c.args.self.now.own c.args.port.0 c.args.to c.in-Some.here c.in-Some-extra_numbered.next c.args.from (omega (arith, c.if-from-eq0.false))
    (sym c.extra_numbered.ensures ∙ c.in-Some.is) (sym c.extra_numbered-in-Some.ensures ∙ c.in-Some-extra_numbered.is))
