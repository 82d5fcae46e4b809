-- What a port has counted, as the history tells it: the frames that it sent, which of them were
-- short and which lone, the frames that were given to it, those that were full there, and those
-- that it read.
use Rattle.std.specs.Prelude.{ℕ, ◌==◌, ◌+◌, if◌then◌else◌, List, [], ◌∷◌, length, count_by, sum}
use Rattle.nm_types.specs.Frames.{Frame}
use Rattle.nm_types.specs.declared.id.Counts.{Counts}
use Rattle.vale_entry.specs.declared.entry.Ask.{Ask}
use Rattle.vale_entry.specs.declared.entry.Ask.TheVariants.{Enter, Open, Send, Grant, Done, Sync, Reset, Shut, Finish, Leave, Put, PutKept, Get, Watch, Stat}
use Rattle.vale_entry.specs.declared.entry.Reply.{Reply}
use Rattle.vale_entry.specs.declared.entry.Reply.TheVariants.{Offered, Shared}
use Rattle.vale_entry.specs.declared.entry.Entry.{Entry}
use Rattle.vale_entry.specs.Learning.{is_short}
use Rattle.vale_entry.specs.Pipe.{frames_of_items}
use Rattle.vale_entry.specs.Legal.{kept_items}
use Rattle.vale_entry.specs.Delivered.{gathered, given_frames, read_frames}

-- what the Sends of a port tell, each by its frames and its reply
abbrev pub of_send : {X : Type 0} → (List Frame → Reply → List X) → ℕ → Ask → Reply → List X
of_send tell port (Send from frames) reply = if from.0 == port then tell frames reply else []
of_send tell port (Enter user) reply = []
of_send tell port (Open session name tx rx extra) reply = []
of_send tell port (Grant origin to) reply = []
of_send tell port (Done lease) reply = []
of_send tell port (Sync at back) reply = []
of_send tell port (Reset at side fault) reply = []
of_send tell port (Shut at) reply = []
of_send tell port (Finish at bufs chain) reply = []
of_send tell port (Leave session) reply = []
of_send tell port (Put at offered) reply = []
of_send tell port (PutKept at offered) reply = []
of_send tell port (Get at back) reply = []
of_send tell port (Watch monitor target sides) reply = []
of_send tell port (Stat at) reply = []

-- the frames of a port's Sends
abbrev pub switched_by : ℕ → Ask → Reply → List Frame
switched_by port ask reply = of_send (λ frames _. frames) port ask reply

-- and those that its Puts took
abbrev pub piped_by : ℕ → Ask → Reply → List Frame
piped_by port (PutKept at offered) reply =
    if at.0 == port then frames_of_items (kept_items reply) else []
piped_by port _ reply = []

-- how many frames of a Send were lone, as its reply says
abbrev pub count_lone : Reply → List ℕ
count_lone (Offered short lone to) = lone ∷ []
count_lone _ = []

abbrev pub lone_by : ℕ → Ask → Reply → List ℕ
lone_by port ask reply = of_send (λ _ reply. count_lone reply) port ask reply

-- how many frames found a port full, as a Grant's reply says
abbrev pub count_full : Reply → List ℕ
count_full (Shared given full gone) = full ∷ []
count_full _ = []

abbrev pub full_by : ℕ → Ask → Reply → List ℕ
full_by port (Grant origin to) reply = if to.0 == port then count_full reply else []
full_by port _ reply = []

abbrev pub counts_told : ℕ → List Entry → ℕ → Counts
counts_told pool history port = record {
  sent = length (gathered switched_by history port) + length (gathered piped_by history port);
  short = count_by is_short (gathered switched_by history port);
  lone = sum (gathered lone_by history port);
  given = length (given_frames pool history port);
  full = sum (gathered full_by history port);
  read = length (read_frames pool history port);
}
