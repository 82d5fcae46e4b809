-- How a session closes its ports, and leaves.
use Rattle.std.specs.Prelude.{ℕ, true, ◌≡◌, ◌≤◌, List, [], ◌∷◌, length, option_map, Some}
use Rattle.nm_turn.specs.Numbered.{Stands}
use Rattle.nm_turn.specs.Passes.{Told}
use Rattle.nm_types.specs.OwnPorts.{OwnPort, buffers_in}
use Rattle.nm_types.specs.OwnSyncs.{chain_in, own_after_finish}
use Rattle.vale_entry.specs.declared.entry.Ask.{Ask}
use Rattle.vale_entry.specs.declared.entry.Ask.TheVariants.{Shut, Leave}
use Rattle.vale_entry.specs.declared.entry.Reply.{Reply}
use Rattle.vale_entry.specs.declared.entry.Reply.TheVariants.{Made, Unread}
use Rattle.vale_entry.specs.Legal.{session_and_reply, step}
use Rattle.vale_entry.specs.OwnCalls.{finish_call}
use Rattle.vale_own.specs.Asker.{asks}
use Rattle.vale_book.specs.Recorded.{standing, HasRoom}
use Rattle.vale_fabric.specs.declared.kept.Fixed.{Fixed}
use Rattle.vale_fabric.specs.Roots.{root_of}
use Rattle.vale_fabric.specs.Fabrics.{Knowing, Answers, entry_by, seen_in}
use Rattle.nm_user.specs.declared.leaving.Detached.{Detached}
use Rattle.nm_user.specs.Sessions.{SessionState}
use Rattle.nm_user.specs.Syncs.{before_number}
use Rattle.nm_user.specs.Receives.{HasPort}

-- by what the pass has seen the ask is one of a session that has come, for which the pass speaks, so it
-- may be made until the session makes another
pub record MayWait (fixed : Fixed) (v : Knowing) (ask : Ask) : Type 0 where
  pub session : ℕ
  pub come : session ≤ length v.seen
  pub may : asks (standing (seen_in fixed v)) session ask ≡ true
  pub speaks : Stands session v.mine

-- by what the session has seen, the entry of this number is the one that the ask makes
pub record IsMadeAt (t : SessionState) (number : ℕ) (ask : Ask) (reply : Reply) : Type 0 where
  pub steps : option_map session_and_reply (step (standing (before_number t number)) ask) ≡ Some (t.id, reply)
  pub room : HasRoom (before_number t number) ask

-- The port was shut, and finished once none of its leases was out: these are the two entries that were
-- made. The finish names the buffers in the port's places, and what its chain of extra ones found.
pub record IsDetached (s t : SessionState) (id : ℕ) (detached : Detached) : Type 0 where
  pub at : HasPort s.own id
  pub shut : ℕ
  pub finish : ℕ
  pub told : Told root_of s.knows t.knows t.knows.seen ((shut, entry_by s.id (Shut at.port.id) Made) ∷ (finish, entry_by s.id (finish_call s.own at.port) (Unread detached.unread)) ∷ [])
  pub shuts : IsMadeAt t shut (Shut at.port.id) Made
  pub finishes : IsMadeAt t finish (finish_call s.own at.port) (Unread detached.unread)
  pub chain : detached.chain ≡ chain_in s.own at.port
  pub own : t.own ≡ own_after_finish id (buffers_in at.port) s.own
  pub fabric : t.fabric ≡ s.fabric
  pub fixed : t.fixed ≡ s.fixed
  pub id_is : t.id ≡ s.id
  pub user : t.user ≡ s.user

-- these ports, one after another
abbrev pub AreDetached : SessionState → List OwnPort → SessionState → Type 0
AreDetached s [] t = t ≡ s
AreDetached s (p ∷ ports) t = (between : SessionState) × ((detached : Detached) × (IsDetached s between p.id.0 detached × AreDetached between ports t))

-- all its ports, and then the session left
pub record IsLeft (s : SessionState) (w : Knowing) : Type 0 where
  pub last : SessionState
  pub detached : AreDetached s s.own.ports last
  pub left : Answers last.fixed last.knows w (Leave (record { 0 = s.id })) Made
