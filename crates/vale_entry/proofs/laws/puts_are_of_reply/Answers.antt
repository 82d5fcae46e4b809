use Rattle.vale_entry.proofs.PutsOfReply.{puts-of_reply}
use Rattle.vale_entry.proofs.laws.puts_are_of_reply.Goals as goal

pub returns : goal.returns
returns c = puts-of_reply
