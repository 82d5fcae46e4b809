-- What a put of a pipe end gives, by what stands before it and after it.
use Rattle.std.specs.Prelude.{◌≡◌, List, length, take, Some}
use Rattle.nm_types.specs.declared.id.PortId.{PortId}
use Rattle.nm_region.specs.Buffers.{indices_of}
use Rattle.vale_line.specs.declared.got.Got.{Got}
use Rattle.vale_entry.specs.declared.entry.Ask.{Ask}
use Rattle.vale_entry.specs.declared.entry.Ask.TheVariants.{Put as Puts}
use Rattle.vale_entry.specs.World.{Port, open_port, transmit_monitor}
use Rattle.vale_entry.specs.Holdings.{first_idle}
use Rattle.vale_entry.specs.Pipe.{peer_of, taken_count, frames_of_items}
use Rattle.vale_steps.specs.declared.putting.Put.{Put}
pub use Rattle.vale_steps.specs.Putting.{item_of, items_of, copied}
use Rattle.nm_region.specs.Regions.{AreOf}
use Rattle.vale_book.specs.Monitored.{IsOfferedTo}
use Rattle.vale_own.specs.Recorded.{Recorded, standing}

-- the ask of a put of these frames
abbrev pub put_ask : PortId → List Got → Ask
put_ask port gots = Puts port (items_of gots)

-- what a put gives: idle buffers of the other end for the frames that it took, of which the monitor of
-- the port's transmit side is offered all
pub record IsPutOf (old new : Recorded) (port peer : Port) (offered : List Got) (put : Put) : Type 0 where
  pub took : put.took ≡ taken_count (Some peer) (length offered)
  pub back : indices_of put.back.items ≡ first_idle peer.id put.took (standing old).holdings.ports
  pub back_of : AreOf old.region put.back.items
  pub copies : put.copies ≡ copied (transmit_monitor (standing old).world port.id) (frames_of_items (items_of (take put.took offered)))
  pub offers : IsOfferedTo new port.session (transmit_monitor (standing old).world port.id) (frames_of_items (items_of (take put.took offered))) put.offers

-- the other end is open
pub record IsPut (old new : Recorded) (at : PortId) (offered : List Got) (put : Put) : Type 0 where
  pub port : Port
  pub here : open_port (standing old).world.ports at.0 ≡ Some port
  pub peer : Port
  pub there : peer_of (standing old).world.ports port ≡ Some peer
  pub is : IsPutOf old new port peer offered put
