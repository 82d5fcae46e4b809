use Rattle.std.proofs.Common.{◌==◌}
use Rattle.vale_fields.proofs.Marks.{first_byte}
use Rattle.vale_fields.proofs.fields.mark_in.Goals as goal

pub returns : goal.returns
returns c = first_byte (λ b. b == c.args.mark) c.args.word.now c.memchr.result c.memchr.ensures
