-- What a call of a desk does: to the book's record, and to what the desk has.
use Rattle.std.specs.Prelude.{ℕ, false, ◌≡◌, ◌⊎◌, ◌+◌, [], ◌∷◌, ◌++◌, length, None, IsSome}
use Rattle.nm_types.specs.OwnPorts.{empty_own, port_with_id}
use Rattle.nm_types.specs.declared.fault.StepFault.{StepFault}
use Rattle.nm_types.specs.declared.fault.StepFault.TheVariants.{NoMemory}
use Rattle.vale_entry.specs.declared.entry.Ask.{Ask}
use Rattle.vale_entry.specs.declared.entry.Ask.TheVariants.{Enter, Send, Grant, Done, Sync, PutKept, Get}
use Rattle.vale_entry.specs.declared.entry.Reply.{Reply}
use Rattle.vale_entry.specs.declared.entry.Reply.TheVariants as replies
use Rattle.vale_entry.specs.Arrivals.{arrivals_of}
use Rattle.vale_entry.specs.Legal.{kept_ask, entry_by}
use Rattle.vale_entry.specs.OwnCalls.{own_by}
use Rattle.vale_own.specs.Side.{is_shut, shut_after}
use Rattle.vale_own.specs.SideAsks.{IsMade, IsSettled}
use Rattle.vale_own.specs.Recorded.{Recorded, standing, HasRoom, IsRefusal}
use Rattle.nm_desk.specs.Desks.{DeskState, IsDeskOf}

-- an entry that starts no offers, and settles none
abbrev pub IsQuiet : Ask → Type 0
IsQuiet (Enter user) = ⊥
IsQuiet (Send port frames) = ⊥
IsQuiet (Sync port back) = ⊥
IsQuiet (Get port back) = ⊥
IsQuiet (PutKept port offered) = ⊥
IsQuiet (Grant origin to) = ⊥
IsQuiet (Done lease) = ⊥
IsQuiet _ = Unit {0}

-- the record with the entry of this ask and reply more, a session's
abbrev pub with_entry : Recorded → ℕ → Ask → Reply → Recorded
with_entry b session ask reply = record b { entries = b.entries ++ entry_by session ask reply ∷ [] }

-- just the entry of this ask was made, with this reply, as the desk's; the desk has what the entry makes
-- of what it had, and is one of the book still; it is settled still where the entry starts no offers
pub record Made (b new : Recorded) (d after : DeskState) (ask : Ask) (reply : Reply) : Type 0 where
  pub made : IsMade b.pool b.entries d.id ask reply
  pub room : HasRoom b ask
  pub book : new ≡ with_entry b d.id ask reply
  pub id : after.id ≡ d.id
  pub shut : after.shut ≡ shut_after (kept_ask ask) d.shut
  pub own : after.own ≡ own_by (length new.entries) (kept_ask ask) reply (arrivals_of (standing b) (kept_ask ask) reply) d.own
  pub desk : IsDeskOf new after
  pub settled : IsQuiet (kept_ask ask) → IsSettled b.pool b.entries d.id → IsSettled new.pool new.entries after.id

-- no entry was made: memory was wanting before the book was asked, or it had no room for the entry
pub record IsRefused (b new : Recorded) (ask : Ask) (fault : StepFault) : Type 0 where
  pub refusal : (fault ≡ NoMemory) ⊎ IsRefusal b ask fault
  pub book : new ≡ b

-- and the desk has what it had
pub record MadeNone (b new : Recorded) (d after : DeskState) (ask : Ask) (fault : StepFault) : Type 0 where
  pub refused : IsRefused b new ask fault
  pub same : after ≡ d

-- a user has come, as a desk of the book without ports, whose number is its entry's
pub record HasEntered (b new : Recorded) (user : ℕ) (d : DeskState) : Type 0 where
  pub desk : IsDeskOf new d
  pub settled : IsSettled new.pool new.entries d.id
  pub room : HasRoom b (Enter user)
  pub book : new ≡ with_entry b d.id (Enter user) replies.Made
  pub id : d.id ≡ length new.entries
  pub shut : d.shut ≡ None
  pub own : d.own ≡ empty_own new.pool

-- the desk has the port, and has not shut it
pub record IsOpenAt (d : DeskState) (id : ℕ) : Type 0 where
  pub there : IsSome (port_with_id d.own id)
  pub is_open : is_shut d.shut id ≡ false
