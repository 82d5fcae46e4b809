use Rattle.vale_entry.proofs.Wanting.{replies-name}
use Rattle.vale_entry.proofs.laws.replies_name_the_wanting.Goals as goal

pub returns : goal.returns
returns c = replies-name
