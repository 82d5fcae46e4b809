-- Why a put gives nothing: its other end is not open, which is recorded, or its step is refused.
use Rattle.std.specs.Prelude.{◌≡◌, List, None, Result, Ok, Err}
use Rattle.nm_types.specs.declared.id.PortId.{PortId}
use Rattle.nm_types.specs.declared.fault.StepFault.{StepFault}
use Rattle.nm_types.specs.declared.fault.StepFault.TheVariants as step
use Rattle.vale_entry.specs.declared.entry.Ask.TheVariants.{Put}
use Rattle.vale_entry.specs.declared.entry.Item.{Item}
use Rattle.vale_entry.specs.Pipe.{peer_at}
use Rattle.vale_book.specs.declared.fault.PutFault.{PutFault}
use Rattle.vale_book.specs.declared.fault.PutFault.TheVariants.{PeerGone, RecordFull, NoMemory}
use Rattle.vale_own.specs.Recorded.{Recorded, standing, IsRefusal}

abbrev pub put_fault_of : StepFault → PutFault
put_fault_of (step.RecordFull what used want) = RecordFull what used want
put_fault_of step.NoMemory = NoMemory

-- the put is an entry also where the other end is not open
abbrev pub IfMade : {A : Type 0} → Result A PutFault → Type 0 → Type 0
IfMade (Ok put) P = P
IfMade (Err PeerGone) P = P
IfMade (Err (RecordFull what used want)) P = Unit {0}
IfMade (Err NoMemory) P = Unit {0}

abbrev pub IfNotMade : {A : Type 0} → Result A PutFault → Type 0 → Type 0
IfNotMade (Ok put) P = Unit {0}
IfNotMade (Err PeerGone) P = Unit {0}
IfNotMade (Err (RecordFull what used want)) P = P
IfNotMade (Err NoMemory) P = P

abbrev pub IsPutRefusal : Recorded → PortId → List Item → PutFault → Type 0
IsPutRefusal b at items PeerGone = peer_at (standing b).world.ports at.0 ≡ None
IsPutRefusal b at items (RecordFull what used want) = IsRefusal b (Put at items) (step.RecordFull what used want)
IsPutRefusal b at items NoMemory = Unit {0}
