use Rattle.std.proofs.Common.{map}
use Rattle.vale_script.specs.Statements.{shown}
use Rattle.vale_script.proofs.Causes.{read_in_form}
use Rattle.vale_script.proofs.statements.said_in_form.Goals as goal

pub returns-in-Ok-clause-value : goal.returns-in-Ok-clause-value
returns-in-Ok-clause-value c = read_in_form c.args.verb (map (λ w. w.now) c.args.words.now) (shown c.in-Ok.said) c.requires c.in-Ok.ensures.value
