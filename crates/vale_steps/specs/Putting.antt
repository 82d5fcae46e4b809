-- A put of a pipe end: its other end takes frames with their buffers, as many as it has space for, and
-- gives as many idle buffers back.
use Rattle.std.specs.Prelude.{ℕ, false, ◌≡◌, List, [], map, take, replicate, IsSome, Option, Some, None}
use Rattle.nm_types.specs.declared.id.Counts.{Counts}
use Rattle.nm_types.specs.declared.id.PortId.{PortId}
use Rattle.nm_types.specs.declared.id.SessionId.{SessionId}
use Rattle.nm_types.specs.Counters.{SumFits, zero_counts}
use Rattle.nm_types.specs.Frames.{Frame}
use Rattle.std.specs.Option.{ForSome}
use Rattle.nm_count.specs.declared.tally.Tallied.{Tallied}
use Rattle.nm_count.specs.Tallies.{counts_of, tally_after_add}
use Rattle.vale_batch.specs.Wants.{Wanted}
use Rattle.vale_line.specs.declared.got.Got.{Got}
use Rattle.vale_line.specs.Gots.{part_in}
use Rattle.vale_entry.specs.declared.entry.Ask.TheVariants.{PutKept}
use Rattle.vale_entry.specs.declared.entry.Item.{Item}
use Rattle.vale_entry.specs.declared.entry.Reply.TheVariants.{Took, PeerGone}
use Rattle.vale_entry.specs.declared.entry.Entry.{Entry}
use Rattle.vale_entry.specs.Pipe.{frames_of_items}
use Rattle.vale_parts.specs.Batches.{dests_wanted}
use Rattle.vale_steps.specs.declared.putting.Putting.{Putting}
use Rattle.vale_steps.specs.declared.putting.Put.{Put}
use Rattle.vale_steps.specs.declared.putting.Taking.{Taking}
use Rattle.vale_steps.specs.Monitored.{wants_by, offers_to}

-- a buffer's index, and the frame in its first bytes
abbrev pub item_of : Got → Item
item_of got = record { index = got.buf.index; bytes = record { bytes = part_in got; no_learn = false } }

abbrev pub items_of : List Got → List Item
items_of gots = map item_of gots

-- each frame of a pipe takes one slot
abbrev pub wants_put : Putting → List Wanted
wants_put putting = wants_by putting.monitor (replicate putting.took 1)

abbrev pub put_entry : Putting → List Item → Entry
put_entry putting items = record {
  session = putting.session;
  ask = PutKept putting.at putting.offered;
  reply = Took items (dests_wanted (wants_put putting));
}

abbrev pub gone_entry : SessionId → PortId → ℕ → Entry
gone_entry session at offered = record { session = session; ask = PutKept at offered; reply = PeerGone }

abbrev pub count_sent : ℕ → Counts
count_sent count = record zero_counts { sent = count }

abbrev pub count_given : ℕ → Counts
count_given count = record zero_counts { given = count }

-- both ends count the frames taken, and their counts fit
pub record CanCount (putting : Putting) (tally : List Tallied) : Type 0 where
  pub own : IsSome (counts_of tally putting.at.0)
  pub own_fits : ForSome (counts_of tally putting.at.0) (λ (counts : Counts). SumFits counts (count_sent putting.took))
  pub other : IsSome (counts_of (tally_after_add putting.at.0 (count_sent putting.took) tally) putting.peer.0)
  pub other_fits : ForSome (counts_of (tally_after_add putting.at.0 (count_sent putting.took) tally) putting.peer.0)
      (λ (counts : Counts). SumFits counts (count_given putting.took))

-- the frames, if somebody monitors them
abbrev pub copied : {X : Type 0} → Option X → List Frame → List Frame
copied None frames = []
copied (Some monitor) frames = frames

-- the frames that are taken of those offered, with room for all that the put gives
pub record IsTaking (putting : Putting) (offered : List Got) (taking : Taking) : Type 0 where
  pub room : taking.room ≡ putting.took
  pub items : taking.items ≡ items_of (take putting.took offered)
  pub copies : taking.copies ≡ copied putting.monitor (frames_of_items (items_of (take putting.took offered)))
  pub monitored : taking.monitored ≡ wants_put putting

-- what the entry of this number gives
pub record IsPutBy (putting : Putting) (number : ℕ) (taken : List Got) (put : Put) : Type 0 where
  pub took : put.took ≡ putting.took
  pub copies : put.copies ≡ copied putting.monitor (frames_of_items (items_of taken))
  pub offers : put.offers ≡ offers_to number putting.session (wants_put putting)

-- so many frames were taken, if the other end is open
abbrev pub took_of : Option Put → ℕ
took_of None = 0
took_of (Some put) = put.took

abbrev pub IfPut : Option Put → (Put → Type 0) → Type 0
IfPut None P = ⊥
IfPut (Some put) P = P put
