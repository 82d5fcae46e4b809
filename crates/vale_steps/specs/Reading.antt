-- A sync of a switch port or a monitor, and a get of a pipe end, as they are recorded.
use Rattle.std.specs.Prelude.{ℕ, Bool, true, false, List, []}
use Rattle.nm_types.specs.declared.id.Counts.{Counts}
use Rattle.nm_types.specs.declared.id.PortId.{PortId}
use Rattle.vale_batch.specs.Wants.{Wanted}
use Rattle.vale_entry.specs.declared.entry.Ask.{Ask}
use Rattle.vale_entry.specs.declared.entry.Ask.TheVariants.{Sync, Get}
use Rattle.vale_entry.specs.declared.entry.Reply.TheVariants.{Gave}
use Rattle.vale_entry.specs.declared.entry.Entry.{Entry}
use Rattle.vale_entry.specs.Counters.{count_gave_at}
use Rattle.vale_parts.specs.Batches.{dests_wanted}
use Rattle.vale_steps.specs.declared.reading.Reading.{Reading}
use Rattle.vale_steps.specs.Monitored.{wants_by}

-- a pipe end's is a Get
abbrev pub read_ask : Bool → PortId → List ℕ → Ask
read_ask true at back = Get at back
read_ask false at back = Sync at back

-- the monitor wants all frames that are ready, of these sizes
abbrev pub wants_read : Reading → List ℕ → List Wanted
wants_read reading sizes = wants_by reading.monitor sizes

abbrev pub read_entry : Reading → List ℕ → List ℕ → Entry
read_entry reading sizes back = record {
  session = reading.session;
  ask = read_ask reading.is_pipe reading.at back;
  reply = Gave reading.frames (dests_wanted (wants_read reading sizes));
}

abbrev pub count_read : ℕ → Counts
count_read count = count_gave_at (Gave count [])
