use Rattle.std.proofs.Common.{ℕ, List, ◌∷◌, ap, ◌∙◌, arith}
use Rattle.std.proofs.lemmas.Fmt.{decimal_digit}
use Rattle.vale_gen.proofs.workload.user_name.Goals as goal

pub returns : goal.returns
returns c = c.in_ok-format.ensures.ok ∙ ap (λ (digits : List ℕ). 117 ∷ digits) (decimal_digit c.args.user (omega (arith, c.requires)))
