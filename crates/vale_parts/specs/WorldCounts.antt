-- The tally is the counters of the world, port by port.
use Rattle.std.specs.Prelude.{◌≡◌, ◌+◌, List, map, Option, Some, None}
use Rattle.nm_types.specs.declared.id.Counts.{Counts}
use Rattle.nm_count.specs.declared.tally.Tallied.{Tallied}
use Rattle.nm_count.specs.Tallies.{tally_with, tally_after_add, tally_without}
use Rattle.vale_entry.specs.declared.entry.Ask.{Ask}
use Rattle.vale_entry.specs.declared.entry.Ask.TheVariants.{Enter, Open, Send, Grant, Done, Sync, Reset, Shut, Finish, Leave, Put, PutKept, Get, Watch, Stat}
use Rattle.vale_entry.specs.declared.entry.Reply.{Reply}
use Rattle.vale_entry.specs.declared.entry.Reply.TheVariants.{Opened}
use Rattle.vale_entry.specs.World.{World, Port, PortCounts}
use Rattle.vale_entry.specs.Pipe.{peer_at}
use Rattle.vale_entry.specs.Counters.{count_sent, count_shared, count_gave_at, count_put, count_taken_at}
use Rattle.vale_parts.specs.Ids.{port_id}

abbrev pub counted_as : Tallied → PortCounts
counted_as tallied = record { port = tallied.port.0; counts = tallied.counts }

abbrev pub CountsAre : World → List Tallied → Type 0
CountsAre w tally = map counted_as tally ≡ w.counts

abbrev pub added_at : Option Port → Counts → List Tallied → List Tallied
added_at None more tally = tally
added_at (Some port) more tally = tally_after_add port.id more tally

-- what an entry makes of the tally: an opening adds a port and a Finish removes it; a Send counts what it
-- sent, a Grant what it shared, a Sync and a Get what they gave, and a Put what was taken, at both ends
abbrev pub tally_after : World → Ask → Reply → List Tallied → List Tallied
tally_after w (Open session name tx rx extra) Opened tally = tally_with (port_id (w.entry_count + 1)) tally
tally_after w (Open session name tx rx extra) _ tally = tally
tally_after w (Send from frames) reply tally = tally_after_add from.0 (count_sent frames reply) tally
tally_after w (Grant origin to) reply tally = tally_after_add to.0 (count_shared reply) tally
tally_after w (Sync at back) reply tally = tally_after_add at.0 (count_gave_at reply) tally
tally_after w (Get at back) reply tally = tally_after_add at.0 (count_gave_at reply) tally
tally_after w (PutKept at offered) reply tally = added_at (peer_at w.ports at.0) (count_taken_at reply) (tally_after_add at.0 (count_put reply) tally)
tally_after w (Finish at bufs chain) reply tally = tally_without at.0 tally
tally_after w (Enter user) reply tally = tally
tally_after w (Done lease) reply tally = tally
tally_after w (Reset port side fault) reply tally = tally
tally_after w (Shut port) reply tally = tally
tally_after w (Leave session) reply tally = tally
tally_after w (Put port offered) reply tally = tally
tally_after w (Watch monitor target sides) reply tally = tally
tally_after w (Stat port) reply tally = tally
