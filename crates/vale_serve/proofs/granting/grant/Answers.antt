use Rattle.std.proofs.Common.{refl, sym, ◌∙◌}
use Rattle.vale_entry.specs.declared.entry.Ask.TheVariants.{Grant}
use Rattle.vale_serve.proofs.Acting.{unserved}
use Rattle.vale_serve.proofs.Granted.{grant-off}
use Rattle.vale_serve.proofs.granting.grant.Goals as goal

pub returns-then-not-is_next-clause-served : goal.returns-then-not-is_next-clause-served
returns-then-not-is_next-clause-served c =
    unserved c.args.book.now (Grant c.args.origin c.args.to) (λ s. refl)
    (grant-off c.args.book.now c.args.user.now c.args.origin c.args.to c.requires.legal c.requires.user c.requires.mine (sym c.is_next.ensures ∙ c.if-not-is_next.true))
