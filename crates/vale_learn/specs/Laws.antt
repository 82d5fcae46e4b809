-- What a table answers after it has learned and forgotten, said of the answers alone.
use Rattle.std.specs.Prelude.{ℕ, ◌≡◌, ◌==◌, ◌↔◌, if◌then◌else◌, List, length, Option, Some, None, bytes_eq}
use Rattle.nm_types.specs.Limits.{buckets}
use Rattle.nm_types.specs.declared.id.Mac.{Mac}
use Rattle.nm_types.specs.declared.id.PortId.{PortId}
use Rattle.vale_learn.specs.AddressTable.{Entries, bucket_of, entry_of, port_of_address, learned, restored, forgotten, no_stations}

-- an address is found exactly where its entry holds it
abbrev pub FoundWhereHeld : Type 0
FoundWhereHeld = (entries : Entries) (address : Mac) (port : PortId)
    → (port_of_address entries address.0 ≡ Some port) ↔ (entry_of entries address.0 ≡ Some (record { address = address; port = port }))

abbrev pub NoneFoundAtFirst : Type 0
NoneFoundAtFirst = (address : List ℕ) → port_of_address no_stations address ≡ None

-- the address learned is found at its port, another one of its entry is not, and the rest stays
abbrev pub found_after_learning : Entries → List ℕ → PortId → List ℕ → Option PortId
found_after_learning entries learned_address port address =
    if bytes_eq learned_address address then Some port
    else (if bucket_of learned_address == bucket_of address then None else port_of_address entries address)

abbrev pub LearningReplaces : Type 0
LearningReplaces = (entries : Entries) (learned_address : Mac) (port : PortId) (address : List ℕ) → length entries ≡ buckets
    → port_of_address (learned entries learned_address port) address ≡ found_after_learning entries learned_address.0 port address

-- what was learned can be undone, from what the entry held before
abbrev pub RestoringUndoesLearning : Type 0
RestoringUndoesLearning = (entries : Entries) (address : Mac) (port : PortId) → length entries ≡ buckets
    → restored (learned entries address port) address (entry_of entries address.0) ≡ entries

abbrev pub unless_port : PortId → Option PortId → Option PortId
unless_port port None = None
unless_port port (Some found) = if found.0 == port.0 then None else Some found

-- what was found at another port is found there still, and nothing else is found
abbrev pub ForgettingBringsNothingBack : Type 0
ForgettingBringsNothingBack = (entries : Entries) (port : PortId) (address : List ℕ)
    → port_of_address (forgotten entries port) address ≡ unless_port port (port_of_address entries address)
