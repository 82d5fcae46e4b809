-- Counters. Each entry counts at the ports that it sends from, gives frames to or reads at; a port
-- that is opened has counted nothing.
use Rattle.std.specs.Prelude.{ℕ, Bool, true, false, not, ◌==◌, ◌+◌, if◌then◌else◌, List, [], ◌∷◌, ◌++◌, length, map, filter}
use Rattle.nm_types.specs.Frames.{Frame}
use Rattle.nm_types.specs.declared.id.Counts.{Counts}
use Rattle.nm_types.specs.Counters.{zero_counts, sum_of_counts}
use Rattle.vale_entry.specs.declared.entry.Ask.{Ask}
use Rattle.vale_entry.specs.declared.entry.Ask.TheVariants.{Enter, Open, Send, Grant, Done, Sync, Reset, Shut, Finish, Leave, Put, PutKept, Get, Watch, Stat}
use Rattle.vale_entry.specs.declared.entry.Reply.{Reply}
use Rattle.vale_entry.specs.declared.entry.Reply.TheVariants.{Opened, Offered, Shared, Gave, Took, Unread}
use Rattle.vale_entry.specs.declared.entry.Entry.{Entry}
use Rattle.vale_entry.specs.World.{World, PortCounts}
use Rattle.vale_entry.specs.Pipe.{puts_to_port}

abbrev pub counts_if : Bool → Counts → Counts
counts_if true counts = counts
counts_if false counts = zero_counts

-- a Send counts its frames at its port, and which of them were short, and which lone
abbrev pub count_sent : List Frame → Reply → Counts
count_sent frames (Offered short lone to) =
    record zero_counts { sent = length frames; short = short; lone = lone }
count_sent frames _ = zero_counts

-- a Grant counts at the port that it names; what is gone is counted nowhere
abbrev pub count_shared : Reply → Counts
count_shared (Shared given full gone) = record zero_counts { given = given; full = full }
count_shared _ = zero_counts

-- a Sync and a Get count what they gave
abbrev pub count_gave_at : Reply → Counts
count_gave_at (Gave count to) = record zero_counts { read = count }
count_gave_at _ = zero_counts

-- a Put counts the frames taken: as sent at its own port, and as given at the other end
abbrev pub count_put : Reply → Counts
count_put (Took items to) = record zero_counts { sent = length items }
count_put _ = zero_counts

abbrev pub count_taken_at : Reply → Counts
count_taken_at (Took items to) = record zero_counts { given = length items }
count_taken_at _ = zero_counts

-- what an ask and its reply count at a port, by the world before them
abbrev pub counted_by : ℕ → World → Ask → Reply → Counts
counted_by port w (Send from frames) reply = counts_if (from.0 == port) (count_sent frames reply)
counted_by port w (Grant origin to) reply = counts_if (to.0 == port) (count_shared reply)
counted_by port w (Sync at back) reply = counts_if (at.0 == port) (count_gave_at reply)
counted_by port w (PutKept at offered) reply =
    sum_of_counts (counts_if (at.0 == port) (count_put reply))
    (counts_if (puts_to_port w.ports at.0 port) (count_taken_at reply))
counted_by port w (Get at back) reply = counts_if (at.0 == port) (count_gave_at reply)
counted_by port w (Enter user) reply = zero_counts
counted_by port w (Open session name tx rx extra) reply = zero_counts
counted_by port w (Done lease) reply = zero_counts
counted_by port w (Reset at side fault) reply = zero_counts
counted_by port w (Shut at) reply = zero_counts
counted_by port w (Finish at bufs chain) reply = zero_counts
counted_by port w (Leave session) reply = zero_counts
counted_by port w (Put at offered) reply = zero_counts
counted_by port w (Watch monitor target sides) reply = zero_counts
counted_by port w (Stat at) reply = zero_counts

abbrev pub counted_in : ℕ → World → Entry → Counts
counted_in port w entry = counted_by port w entry.ask entry.reply

abbrev pub with_counted : World → Entry → PortCounts → PortCounts
with_counted w entry counted =
    record counted { counts = sum_of_counts counted.counts (counted_in counted.port w entry) }

-- a port that is opened has counters, and one that is gone has none
abbrev pub opened_counts : ℕ → Reply → List PortCounts → List PortCounts
opened_counts number Opened counts = counts ++ (record { port = number; counts = zero_counts }) ∷ []
opened_counts number _ counts = counts

abbrev pub finished_counts : ℕ → Reply → List PortCounts → List PortCounts
finished_counts port (Unread count) counts =
    filter (λ (counted : PortCounts). not (counted.port == port)) counts
finished_counts port _ counts = counts

abbrev pub counts_moved : ℕ → Ask → Reply → List PortCounts → List PortCounts
counts_moved number (Open session name tx rx extra) reply counts = opened_counts number reply counts
counts_moved number (Finish port bufs chain) reply counts = finished_counts port.0 reply counts
counts_moved number _ reply counts = counts

-- the counters after an entry
abbrev pub counts_after : World → Entry → List PortCounts
counts_after w entry =
    counts_moved (w.entry_count + 1) entry.ask entry.reply (map (with_counted w entry) w.counts)

-- the counters of a port
abbrev pub counts_of : List PortCounts → ℕ → Counts
counts_of [] port = zero_counts
counts_of (counted ∷ counts) port =
    if counted.port == port then counted.counts else counts_of counts port
