-- What the read of a port gives.
use Rattle.std.specs.Prelude.{◌≡◌, ◌≤◌, ◌<◌, IfErr, IfOk, List, Result, length}
use Rattle.nm_region.specs.Buffers.{Buffer}
use Rattle.nm_turn.specs.declared.pass.Pass.{Pass}
use Rattle.nm_turn.specs.Numbered.{Stands}
use Rattle.nm_types.specs.declared.fault.StepFault.{StepFault}
use Rattle.nm_types.specs.declared.id.PortId.{PortId}
use Rattle.nm_types.specs.Limits.{most_ring}
use Rattle.vale_line.specs.Gots.{frames_in, IsCut}
use Rattle.vale_entry.specs.declared.entry.Ask.{Ask}
use Rattle.vale_entry.specs.declared.entry.Entry.{Entry}
use Rattle.vale_entry.specs.declared.entry.Reply.TheVariants.{Gave}
use Rattle.vale_parts.specs.Batches.{dests_wanted}
use Rattle.vale_steps.specs.declared.reading.Synced.{Synced}
use Rattle.vale_book.specs.BookView.{AreOf}
use Rattle.vale_book.specs.Reading.{IsGiven, IsOffered}
use Rattle.vale_book.specs.Recorded.{Recorded}
use Rattle.vale_fabric.specs.declared.kept.Fixed.{Fixed}
use Rattle.vale_fabric.specs.declared.fabric.Fabric.{Fabric}
use Rattle.vale_fabric.specs.Fabrics.{Knowing, Answers, IsPassIn, MayIn, RefusesIn, seen_in, before_in, fixed_in, knowing}
use Rattle.vale_fabric.specs.Settling.{IsAtHand}

-- the fabric made the entry of this read of a port, gave it what was ready there, and offers that to its
-- monitor
pub record IsRead (fixed : Fixed) (v w : Knowing) (ask : Ask) (port : PortId) (synced : Synced) : Type 0 where
  pub made : Answers fixed v w ask (Gave (length (frames_in synced.got.items)) (dests_wanted synced.offers.wants))
  pub got : IsGiven (before_in fixed w) port synced.got.items
  pub cut : IsCut synced.got.items
  pub few : length synced.got.items < most_ring
  pub offers : IsOffered (before_in fixed w) (seen_in fixed w) port synced.offers
  pub hand : 1 ≤ length synced.offers.wants → IsAtHand fixed w synced.offers (frames_in synced.got.items)

-- this may be asked of the fabric, and these buffers go back to it
pub record MayRead (fabric : Fabric) (now : Pass Recorded Entry Fixed) (ask : Ask) (back : List Buffer) : Type 0 where
  pub pass : IsPassIn fabric now
  pub may : MayIn fabric now ask
  pub region : AreOf (fixed_in fabric).region back

-- the port was read by this ask, or the buffers that were to go back are handed back
pub record Reads {Bufs : Type 0} (fabric : Fabric) (old new : Pass Recorded Entry Fixed) (ask : Ask) (port : PortId) (bufs : Bufs) (result : Result Synced (StepFault × Bufs)) : Type 0 where
  pub pass : IsPassIn fabric new
  pub read : IfOk result (IsRead (fixed_in fabric) (knowing old) (knowing new) ask port)
  pub speaks : IfOk result (λ synced. 1 ≤ length synced.offers.wants → Stands synced.offers.session (knowing new).mine)
  pub full : IfErr result (λ refused. RefusesIn fabric old new ask refused.0)
  pub back : IfErr result (λ refused. refused.1 ≡ bufs)
