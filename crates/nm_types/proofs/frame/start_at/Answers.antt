use Rattle.std.proofs.Common.{◌≡◌, ◌-◌, suc, sym, ◌∙◌, ap, arith}
use Rattle.nm_types.specs.Ends.{start_at}
use Rattle.nm_types.proofs.Places.{start_is}
use Rattle.nm_types.proofs.frame.start_at.Goals as goal

pub returns-else-i-eq0 : goal.returns-else-i-eq0
returns-else-i-eq0 c =
    let ends = c.args.ends.now in
    let at : suc (c.args.i - 1) ≡ c.args.i = omega (arith, c.if-i-eq0.false) in
    sym (start_is 0 ends (c.args.i - 1) (omega (arith, c.if-i-eq0.false, c.requires))) ∙ ap (start_at 0 ends) at
