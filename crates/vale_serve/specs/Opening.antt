-- What an opening is answered, and what it gives to its session.
use Rattle.std.specs.Prelude.{ℕ, ◌≡◌, ◌≤◌, ◌+◌, ◌++◌, ◌∷◌, [], if◌then◌else◌, List, length, min, vec_len, vec_capacity, Vec, Result, Ok, Err}
use Rattle.std.specs.declared.alloc.Global.{Global}
use Rattle.nm_types.specs.Names.{is_monitor_name}
use Rattle.nm_types.specs.Limits.{most_extra, most_ring}
use Rattle.nm_types.specs.declared.fault.StepFault.TheVariants as steps
use Rattle.nm_types.specs.declared.fault.StepFault.{StepFault}
use Rattle.nm_types.specs.declared.fault.OpenFault.{OpenFault}
use Rattle.nm_types.specs.declared.fault.OpenFault.TheVariants.{BadSize, SwitchesFull, PortsFull, NameTaken, NoBuffers, RecordFull, NoMemory}
use Rattle.nm_region.specs.Buffers.{Buffer}
use Rattle.vale_entry.specs.declared.entry.Reply.{Reply}
use Rattle.vale_entry.specs.declared.entry.Reply.TheVariants.{Refused}
use Rattle.vale_steps.specs.declared.opening.Opened.{Opened}
use Rattle.vale_serve.specs.declared.users.User.{User}

-- an opening that is refused is answered so, and a fault of the record is an error
abbrev pub unopened : OpenFault → Result Reply StepFault
unopened BadSize = Ok (Refused BadSize)
unopened SwitchesFull = Ok (Refused SwitchesFull)
unopened PortsFull = Ok (Refused PortsFull)
unopened NameTaken = Ok (Refused NameTaken)
unopened (NoBuffers want have) = Ok (Refused (NoBuffers want have))
unopened (RecordFull what used want) = Err (steps.RecordFull what used want)
unopened NoMemory = Err steps.NoMemory

-- the most buffers that an opening gives to its session; a monitor has no transmit ring
abbrev pub most_given : List ℕ → ℕ → ℕ → ℕ
most_given name tx extra = (if is_monitor_name name then 0 else min tx most_ring) + min extra most_extra

-- there is room for the buffers of an opening of this name and these sizes, and for its port's room
pub record CanTake (name : List ℕ) (tx extra : ℕ) (user : User) : Type 0 where
  pub bufs : vec_len user.bufs + most_given name tx extra ≤ vec_capacity user.bufs
  pub rooms : vec_len user.rooms + 1 ≤ vec_capacity user.rooms

-- there is room for what was opened
pub record TakesIn (user : User) (opened : Opened) : Type 0 where
  pub bufs : vec_len user.bufs + (length opened.tx.items + length opened.extra.items) ≤ vec_capacity user.bufs
  pub rooms : vec_len user.rooms + 1 ≤ vec_capacity user.rooms

-- the session has the buffers of what was opened, and one room more
pub record HasTaken (old : User) (opened : Opened) (room : Vec Buffer Global) (new : User) : Type 0 where
  pub id : new.id ≡ old.id
  pub bufs : new.bufs.items ≡ old.bufs.items ++ (opened.tx.items ++ opened.extra.items)
  pub leases : new.leases ≡ old.leases
  pub sent : new.sent ≡ old.sent
  pub rooms : new.rooms.items ≡ old.rooms.items ++ (record { port = opened.port; bufs = room }) ∷ []
