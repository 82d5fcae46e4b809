-- A sync of a switch port or a monitor, and a get of a pipe end: buffers come back, and what is ready
-- is given.
use Rattle.std.specs.Prelude.{ℕ, ◌≡◌, ◌<◌, ◌≤◌, List, drop, length, Vec, Some, Result, OnOk, OnErr, IfOk, IfErr}
use Rattle.std.specs.declared.alloc.Global.{Global}
use Rattle.nm_types.specs.Limits.{most_ring}
use Rattle.nm_types.specs.Parts.{cut_frames}
use Rattle.nm_types.specs.declared.fault.StepFault.{StepFault}
use Rattle.nm_types.specs.declared.id.PortId.{PortId}
use Rattle.nm_region.specs.Buffers.{Buffer, indices_of}
use Rattle.vale_line.specs.declared.got.Got.{Got}
use Rattle.vale_line.specs.Gots.{IsCut, buffers_of, frames_in, held_parts}
use Rattle.vale_entry.specs.World.{Port, open_port, receive_monitor}
use Rattle.vale_entry.specs.Delivery.{ready_lots, delivered_frames}
use Rattle.vale_entry.specs.Holdings.{delivered_buffers}
use Rattle.vale_entry.specs.Legal.{Standing, reply_to}
use Rattle.vale_entry.specs.declared.entry.Ask.{Ask}
use Rattle.vale_entry.specs.declared.entry.Reply.TheVariants.{Gave}
use Rattle.vale_parts.specs.Batches.{dests_wanted}
use Rattle.vale_port.specs.Kept.{bytes_of}
pub use Rattle.vale_steps.specs.Reading.{read_ask}
use Rattle.vale_steps.specs.declared.reading.Synced.{Synced}
use Rattle.vale_steps.specs.Offering.{OffersState}
use Rattle.nm_region.specs.Regions.{AreOf}
use Rattle.vale_book.specs.Monitored.{IsOfferedTo}
use Rattle.vale_own.specs.Recorded.{HasRoom, IsRefusal, Recorded, after_ask, standing}

-- the frame behind so many others begins in the buffer behind so many others
pub record Begins (gots : List Got) (frame at : ℕ) : Type 0 where
  pub within : at ≤ length gots
  pub left : held_parts (drop at gots) ≡ cut_frames (drop frame (frames_in gots))

-- what is given of a port: the frames of its ready lots, part by part, in the buffers that are held for
-- these
pub record IsGivenOf (s : Standing) (region : ℕ) (port : Port) (gots : List Got) : Type 0 where
  pub parts : held_parts gots ≡ cut_frames (bytes_of (delivered_frames port))
  pub buffers : indices_of (buffers_of gots) ≡ delivered_buffers port.id (length (ready_lots port)) s.holdings.ports
  pub region_is : AreOf region (buffers_of gots)

abbrev pub IsGiven : Recorded → PortId → List Got → Type 0
IsGiven b at gots = (port : Port) → open_port (standing b).world.ports at.0 ≡ Some port → IsGivenOf (standing b) b.region port gots

-- it is offered to the monitor of the port's receive side alone
abbrev pub IsOfferedOf : Recorded → Recorded → Port → OffersState → Type 0
IsOfferedOf old new port offers = IsOfferedTo new port.session (receive_monitor (standing old).world port.id) (delivered_frames port) offers

abbrev pub IsOffered : Recorded → Recorded → PortId → OffersState → Type 0
IsOffered old new at offers = (port : Port) → open_port (standing old).world.ports at.0 ≡ Some port → IsOfferedOf old new port offers

-- what the call of a sync or a get answers, by its ask
pub record IsRead (old new : Recorded) (at : PortId) (ask : Ask) (bufs : Vec Buffer Global) (result : Result Synced (StepFault × Vec Buffer Global)) : Type 0 where
  pub made : OnOk result (new ≡ after_ask old ask)
  pub said : IfOk result (λ (synced : Synced). reply_to (standing old) ask ≡ Some (Gave (length (frames_in synced.got.items)) (dests_wanted synced.offers.wants)))
  pub got : IfOk result (λ (synced : Synced). IsGiven old at synced.got.items)
  pub cut : IfOk result (λ (synced : Synced). IsCut synced.got.items)
  pub few : IfOk result (λ (synced : Synced). length synced.got.items < most_ring)
  pub offers : IfOk result (λ (synced : Synced). IsOffered old new at synced.offers)
  pub room : OnOk result (HasRoom old ask)
  pub full : IfErr result (λ (refused : StepFault × Vec Buffer Global). IsRefusal old ask refused.0)
  pub back : IfErr result (λ (refused : StepFault × Vec Buffer Global). refused.1 ≡ bufs)
  pub err : OnErr result (new ≡ old)
