-- Why a put through a fabric gave nothing.
use Rattle.std.specs.Prelude.{Bool, true, false, List}
use Rattle.nm_types.specs.declared.id.PortId.{PortId}
use Rattle.nm_types.specs.declared.fault.StepFault.TheVariants as steps
use Rattle.vale_entry.specs.declared.entry.Ask.TheVariants.{Put}
use Rattle.vale_entry.specs.declared.entry.Item.{Item}
use Rattle.vale_entry.specs.declared.entry.Reply.TheVariants as replies
use Rattle.vale_book.specs.declared.fault.PutFault.{PutFault}
use Rattle.vale_book.specs.declared.fault.PutFault.TheVariants.{PeerGone, RecordFull, NoMemory}
use Rattle.vale_fabric.specs.declared.kept.Fixed.{Fixed}
use Rattle.vale_fabric.specs.Fabrics.{Knowing, Answers, Refuses}

abbrev pub is_put_said : PutFault → Bool
is_put_said PeerGone = true
is_put_said (RecordFull what used want) = false
is_put_said NoMemory = false

-- that the other end is not open is an entry; that there is no room or memory is none
abbrev pub PutsNot : Fixed → Knowing → Knowing → PortId → List Item → PutFault → Type 0
PutsNot fixed v w port items PeerGone = Answers fixed v w (Put port items) replies.PeerGone
PutsNot fixed v w port items (RecordFull what used want) = Refuses fixed v w (Put port items) (steps.RecordFull what used want)
PutsNot fixed v w port items NoMemory = Refuses fixed v w (Put port items) steps.NoMemory
