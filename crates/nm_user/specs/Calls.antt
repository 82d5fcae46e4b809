-- What a call of a session does: to what its pass knows, and to what the session has.
use Rattle.std.specs.Prelude.{◌≡◌, ◌⊎◌, length}
use Rattle.nm_types.specs.declared.fault.StepFault.{StepFault}
use Rattle.nm_types.specs.declared.fault.StepFault.TheVariants.{NoMemory}
use Rattle.vale_entry.specs.declared.entry.Ask.{Ask}
use Rattle.vale_entry.specs.declared.entry.Reply.{Reply}
use Rattle.vale_entry.specs.Arrivals.{arrivals_of}
use Rattle.vale_entry.specs.Legal.{kept_ask}
use Rattle.vale_entry.specs.OwnCalls.{own_by}
use Rattle.vale_book.specs.Recorded.{standing}
use Rattle.vale_fabric.specs.declared.kept.Fixed.{Fixed}
use Rattle.vale_fabric.specs.Fabrics.{Knowing, Answers, Refuses, before_in}
use Rattle.nm_user.specs.Sessions.{SessionState}

-- just the entry of this ask was made, with this reply, and the session has what it makes of what it had
pub record Made (s t : SessionState) (ask : Ask) (reply : Reply) : Type 0 where
  pub answers : Answers s.fixed s.knows t.knows ask reply
  pub fabric : t.fabric ≡ s.fabric
  pub fixed : t.fixed ≡ s.fixed
  pub id : t.id ≡ s.id
  pub user : t.user ≡ s.user
  pub own : t.own ≡ own_by (length t.knows.seen) (kept_ask ask) reply (arrivals_of (standing (before_in s.fixed t.knows)) (kept_ask ask) reply) s.own

-- no memory was had before the fabric was asked; or it made no entry, for which it had no room
abbrev pub IsRefused : Fixed → Knowing → Knowing → Ask → StepFault → Type 0
IsRefused fixed v w ask fault = ((w ≡ v) × (fault ≡ NoMemory)) ⊎ Refuses fixed v w ask fault

-- no entry was made, and the session has what it had
pub record MadeNone (s t : SessionState) (ask : Ask) (fault : StepFault) : Type 0 where
  pub refused : IsRefused s.fixed s.knows t.knows ask fault
  pub same : t ≡ record s { knows = t.knows }
