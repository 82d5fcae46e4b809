-- What a sync of a desk does.
use Rattle.std.specs.Prelude.{ℕ, false, ◌≡◌, List, [], Some, None, IsSome, IfSome}
use Rattle.nm_types.specs.Frames.{Frame}
use Rattle.nm_types.specs.declared.fault.StepFault.{StepFault}
use Rattle.nm_types.specs.declared.id.Side.{Side}
use Rattle.nm_types.specs.declared.id.Side.TheVariants.{Tx}
use Rattle.nm_types.specs.Sendable.{AreFrames}
use Rattle.nm_types.specs.Names.{is_pipe_name}
use Rattle.nm_types.specs.OwnPorts.{OwnPort, OwnRing, OwnState, port_with_id, ring_at, refusal_at}
use Rattle.vale_entry.specs.declared.entry.Ask.TheVariants.{Send}
use Rattle.vale_entry.specs.declared.entry.Reply.TheVariants.{Offered}
use Rattle.vale_entry.specs.OwnCalls.{tx_call}
use Rattle.vale_own.specs.SideAsks.{IsSettled}
use Rattle.vale_own.specs.Recorded.{Recorded}
use Rattle.vale_own.specs.Side.{is_shut}
use Rattle.vale_parts.specs.Batches.{dests_wanted}
use Rattle.vale_steps.specs.Offering.{OffersState}
use Rattle.vale_book.specs.Sending.{IsSent as IsOffered}
use Rattle.nm_desk.specs.Desks.{DeskState}
use Rattle.nm_desk.specs.Calls.{Made, MadeNone}

-- the port of an id, with its transmit ring
pub record HasTx (own : OwnState) (id : ℕ) : Type 0 where
  pub port : OwnPort
  pub ring : OwnRing
  pub found : port_with_id own id ≡ Some port
  pub has : port.tx ≡ Some ring

-- the desk has neither an offer nor a lease, and the port is open, with a ring on this side
pub record CanSync (b : Recorded) (d : DeskState) (side : Side) (id : ℕ) : Type 0 where
  pub settled : IsSettled b.pool b.entries d.id
  pub is_open : is_shut d.shut id ≡ false
  pub ring : IsSome (ring_at side d.own id)

-- the port's transmit ring has a push that no check refuses, and the port is no pipe's end
pub record PassesSend (d : DeskState) (id : ℕ) : Type 0 where
  pub plain : IfSome (port_with_id d.own id) (λ (p : OwnPort). is_pipe_name p.name ≡ false)
  pub passes : refusal_at Tx id d.own ≡ None

-- the frames pushed were sent, and this is offered of them; if nothing is, the desk is settled
pub record IsSent (b new : Recorded) (d after : DeskState) (id : ℕ) (offers : OffersState) (frames : List Frame) : Type 0 where
  pub tx : HasTx d.own id
  pub is : tx_call d.own tx.port tx.ring ≡ Send tx.port.id frames
  pub made : Made b new d after (tx_call d.own tx.port tx.ring) (Offered offers.short offers.lone (dests_wanted offers.wants))
  pub offered : IsOffered new frames offers
  pub frames_fit : AreFrames frames
  pub settled : offers.wants ≡ [] → IsSettled new.pool new.entries after.id

-- they were not, and stay pushed
pub record IsUnsent (b new : Recorded) (d after : DeskState) (id : ℕ) (fault : StepFault) : Type 0 where
  pub tx : HasTx d.own id
  pub none : MadeNone b new d after (tx_call d.own tx.port tx.ring) fault
