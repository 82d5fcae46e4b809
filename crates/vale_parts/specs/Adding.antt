-- What is added to the tally fits, as an addition asks.
use Rattle.std.specs.Prelude.{ℕ, List, Option, Some, None}
use Rattle.std.specs.Option.{ForSome}
use Rattle.nm_types.specs.declared.id.Counts.{Counts}
use Rattle.nm_types.specs.Counters.{SumFits}
use Rattle.nm_count.specs.declared.tally.Tallied.{Tallied}
use Rattle.nm_count.specs.Tallies.{counts_of, tally_after_add}
use Rattle.vale_entry.specs.declared.entry.Ask.{Ask}
use Rattle.vale_entry.specs.declared.entry.Ask.TheVariants.{Enter, Open, Send, Grant, Done, Sync, Reset, Shut, Finish, Leave, Put, PutKept, Get, Watch, Stat}
use Rattle.vale_entry.specs.declared.entry.Reply.{Reply}
use Rattle.vale_entry.specs.World.{World, Port}
use Rattle.vale_entry.specs.Pipe.{peer_at}
use Rattle.vale_entry.specs.Counters.{count_sent, count_shared, count_gave_at, count_put, count_taken_at}

abbrev pub FitsIn : List Tallied → ℕ → Counts → Type 0
FitsIn tally port more = ForSome (counts_of tally port) (λ (counts : Counts). SumFits counts more)

abbrev pub FitsAtPeer : List Tallied → Option Port → Counts → Type 0
FitsAtPeer tally None more = Unit {0}
FitsAtPeer tally (Some peer) more = FitsIn tally peer.id more

-- each addition that an entry makes, a Put's at the other end once that at its own is made
abbrev pub AddsFit : World → Ask → Reply → List Tallied → Type 0
AddsFit w (Send from frames) reply tally = FitsIn tally from.0 (count_sent frames reply)
AddsFit w (Grant origin to) reply tally = FitsIn tally to.0 (count_shared reply)
AddsFit w (Sync at back) reply tally = FitsIn tally at.0 (count_gave_at reply)
AddsFit w (Get at back) reply tally = FitsIn tally at.0 (count_gave_at reply)
AddsFit w (PutKept at offered) reply tally =
    FitsIn tally at.0 (count_put reply) × FitsAtPeer (tally_after_add at.0 (count_put reply) tally) (peer_at w.ports at.0) (count_taken_at reply)
AddsFit w (Enter user) reply tally = Unit {0}
AddsFit w (Open session name tx rx extra) reply tally = Unit {0}
AddsFit w (Done lease) reply tally = Unit {0}
AddsFit w (Reset port side fault) reply tally = Unit {0}
AddsFit w (Shut port) reply tally = Unit {0}
AddsFit w (Finish port bufs chain) reply tally = Unit {0}
AddsFit w (Leave session) reply tally = Unit {0}
AddsFit w (Put port offered) reply tally = Unit {0}
AddsFit w (Watch monitor target sides) reply tally = Unit {0}
AddsFit w (Stat port) reply tally = Unit {0}
