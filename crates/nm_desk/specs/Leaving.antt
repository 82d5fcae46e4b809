-- How a desk closes its ports, and leaves.
use Rattle.std.specs.Prelude.{ℕ, ◌≡◌, ◌<◌, Some}
use Rattle.nm_types.specs.OwnPorts.{OwnPort, OwnState, port_with_id}
use Rattle.nm_types.specs.OwnSyncs.{chain_in}
use Rattle.vale_entry.specs.declared.entry.Ask.TheVariants.{Leave}
use Rattle.vale_entry.specs.declared.entry.Reply.TheVariants.{Made as Accepted, Unread, LeasesOut}
use Rattle.vale_entry.specs.Legal.{reply_to}
use Rattle.vale_entry.specs.OwnCalls.{finish_call}
use Rattle.vale_own.specs.SideAsks.{IsMade}
use Rattle.vale_own.specs.Recorded.{Recorded, standing, HasRoom}
use Rattle.nm_desk.specs.declared.leaving.Detached.{Detached}
use Rattle.nm_desk.specs.Desks.{DeskState}
use Rattle.nm_desk.specs.Calls.{Made, with_entry}

pub record HasPort (own : OwnState) (id : ℕ) : Type 0 where
  pub port : OwnPort
  pub found : port_with_id own id ≡ Some port

-- the port has gone: the entry names the buffers in its places, and what its chain of extra ones found
pub record IsFinished (b new : Recorded) (d after : DeskState) (id : ℕ) (detached : Detached) : Type 0 where
  pub at : HasPort d.own id
  pub made : Made b new d after (finish_call d.own at.port) (Unread detached.unread)
  pub chain : detached.chain ≡ chain_in d.own at.port

-- so many leases of it are out, and nothing has changed
pub record Waits (b new : Recorded) (d after : DeskState) (id out : ℕ) : Type 0 where
  pub at : HasPort d.own id
  pub some : 0 < out
  pub reply_is : reply_to (standing b) (finish_call d.own at.port) ≡ Some (LeasesOut out)
  pub book : new ≡ b
  pub same : after ≡ d

-- the session has ended
pub record HasLeft (b new : Recorded) (d : DeskState) : Type 0 where
  pub made : IsMade b.pool b.entries d.id (Leave (record { 0 = d.id })) Accepted
  pub room : HasRoom b (Leave (record { 0 = d.id }))
  pub book : new ≡ with_entry b d.id (Leave (record { 0 = d.id })) Accepted
