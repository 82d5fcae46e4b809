use Rattle.vale_entry.proofs.SenderOrder.{sender-order}
use Rattle.vale_entry.proofs.laws.sender_order_is_kept.Goals as goal

pub returns : goal.returns
returns c = sender-order
