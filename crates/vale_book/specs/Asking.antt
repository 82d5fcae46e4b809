-- What a book answers of a port.
use Rattle.std.specs.Prelude.{◌≡◌, length, Option, Some, None, is_some}
use Rattle.nm_types.specs.Frames.{size_of_frames}
use Rattle.vale_entry.specs.World.{World, Port, due_of, receive_monitor}
use Rattle.vale_entry.specs.Delivery.{delivered_frames}
use Rattle.vale_entry.specs.Closing.{leases_out}
use Rattle.vale_book.specs.declared.asking.PortSeen.{PortSeen}
use Rattle.vale_book.specs.declared.asking.Ready.{Ready}

pub record IsSeen (port : Port) (seen : PortSeen) : Type 0 where
  pub session : seen.session.0 ≡ port.session
  pub name : seen.name ≡ port.name
  pub tx : seen.tx ≡ port.tx
  pub out : seen.out ≡ port.out
  pub due : seen.due ≡ due_of port
  pub leases : seen.leases_out ≡ leases_out port

-- the port that is looked for, where it is there
abbrev pub IsSeenAs : Option Port → Option PortSeen → Type 0
IsSeenAs None None = Unit {0}
IsSeenAs None (Some seen) = ⊥
IsSeenAs (Some port) None = ⊥
IsSeenAs (Some port) (Some seen) = IsSeen port seen

-- what a sync of the port gives
pub record AreReady (port : Port) (ready : Ready) : Type 0 where
  pub frames : ready.frames ≡ length (delivered_frames port)
  pub buffers : ready.buffers ≡ size_of_frames (delivered_frames port)

-- and whether its receive side has a monitor
pub record IsReady (w : World) (port : Port) (ready : Ready) : Type 0 where
  pub are : AreReady port ready
  pub watched : ready.is_watched ≡ is_some (receive_monitor w port.id)
