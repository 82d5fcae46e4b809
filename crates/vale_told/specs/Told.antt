-- What the entries of a history tell of a port: the frames that it sent, that were given to it, that
-- found it full or gone, that it read and that nobody read, and when it was shut and finished.
use Rattle.std.specs.Prelude.{ℕ, Bool, true, false, ◌==◌, ◌+◌, if◌then◌else◌, List, [], ◌∷◌, ◌++◌, length, sum, Option, Some, None}
use Rattle.nm_types.specs.Frames.{Frame}
use Rattle.nm_types.specs.Counters.{zero_counts}
use Rattle.nm_types.specs.declared.id.Counts.{Counts}
use Rattle.vale_entry.specs.declared.entry.Ask.{Ask}
use Rattle.vale_entry.specs.declared.entry.Ask.TheVariants.{Send, Grant, Sync, Shut, Finish, PutKept, Get}
use Rattle.vale_entry.specs.declared.entry.Reply.{Reply}
use Rattle.vale_entry.specs.declared.entry.Reply.TheVariants.{Offered, Shared}
use Rattle.vale_entry.specs.declared.entry.Entry.{Entry}
use Rattle.vale_entry.specs.Legal.{kept_items}
use Rattle.vale_entry.specs.Delivered.{gathered, count_given, count_taken, count_gave, count_unread, read_counts, unread_counts}
use Rattle.vale_entry.specs.Counted.{of_send, switched_by, piped_by, count_lone, lone_by, count_full, full_by}
use Rattle.vale_told.specs.declared.told.Told.{Told}
use Rattle.vale_told.specs.declared.ends.End.{End}
use Rattle.vale_told.specs.Tallies.{zero_tally, sum_of_tallies}
use Rattle.vale_told.specs.Ends.{ends_by, peer_among}

-- how many frames of a Send were short, as its reply says
abbrev pub count_short : Reply → List ℕ
count_short (Offered short lone to) = short ∷ []
count_short _ = []

abbrev pub short_by : ℕ → Ask → Reply → List ℕ
short_by port ask reply = of_send (λ _ reply. count_short reply) port ask reply

-- how many frames a Grant to the port gave, and how many of them it found gone
abbrev pub granted_by : ℕ → Ask → Reply → List ℕ
granted_by port (Grant origin to) reply = if to.0 == port then count_given reply else []
granted_by port _ reply = []

abbrev pub count_gone : Reply → List ℕ
count_gone (Shared given full gone) = gone ∷ []
count_gone _ = []

abbrev pub gone_by : ℕ → Ask → Reply → List ℕ
gone_by port (Grant origin to) reply = if to.0 == port then count_gone reply else []
gone_by port _ reply = []

abbrev pub is_port : Option ℕ → ℕ → Bool
is_port None port = false
is_port (Some id) port = id == port

-- how many frames a Put gave to the port, if that is its other end
abbrev pub put_by : List End → ℕ → Ask → Reply → List ℕ
put_by ends port (PutKept at offered) reply =
    if is_port (peer_among ends at.0) port then count_taken reply else []
put_by ends port _ reply = []

-- the same of entries of which the first has this number; these ends are open before it
abbrev pub puts_from : ℕ → List End → List Entry → ℕ → List ℕ
puts_from number ends [] port = []
puts_from number ends (entry ∷ entries) port =
    put_by ends port entry.ask entry.reply
    ++ puts_from (number + 1) (ends_by number entry.ask entry.reply ends) entries port

abbrev pub first_of : Option ℕ → Option ℕ → Option ℕ
first_of None later = later
first_of (Some number) later = Some number

-- the number of the entry, if that is a Shut of the port, or a Finish
abbrev pub shut_by : ℕ → ℕ → Ask → Option ℕ
shut_by number port (Shut at) = if at.0 == port then Some number else None
shut_by number port _ = None

abbrev pub finished_by : ℕ → ℕ → Ask → Option ℕ
finished_by number port (Finish at bufs chain) = if at.0 == port then Some number else None
finished_by number port _ = None

-- the first such entry
abbrev pub shut_from : ℕ → List Entry → ℕ → Option ℕ
shut_from number [] port = None
shut_from number (entry ∷ entries) port =
    first_of (shut_by number port entry.ask) (shut_from (number + 1) entries port)

abbrev pub finished_from : ℕ → List Entry → ℕ → Option ℕ
finished_from number [] port = None
finished_from number (entry ∷ entries) port =
    first_of (finished_by number port entry.ask) (finished_from (number + 1) entries port)

-- what entries tell of a port, of which the first has this number; these ends are open before it
abbrev pub told_from : ℕ → List End → List Entry → ℕ → Told
told_from number ends entries port = record {
  tally = record {
    counts = record {
      sent = length (gathered switched_by entries port) + length (gathered piped_by entries port);
      short = sum (gathered short_by entries port);
      lone = sum (gathered lone_by entries port);
      given = sum (gathered granted_by entries port) + sum (puts_from number ends entries port);
      full = sum (gathered full_by entries port);
      read = sum (read_counts entries port);
    };
    gone = sum (gathered gone_by entries port);
    unread = sum (unread_counts entries port);
  };
  shut = shut_from number entries port;
  finished = finished_from number entries port;
}

-- what a history tells of a port
abbrev pub told_of : List Entry → ℕ → Told
told_of history port = told_from 1 [] history port

-- One entry alone.

abbrev pub told_nothing : Told
told_nothing = record { tally = zero_tally; shut = None; finished = None }

-- what entries tell, and others behind them
abbrev pub told_both : Told → Told → Told
told_both told more = record {
  tally = sum_of_tallies told.tally more.tally;
  shut = first_of told.shut more.shut;
  finished = first_of told.finished more.finished;
}

abbrev pub told_if : Bool → Told → Told
told_if true told = told
told_if false told = told_nothing

abbrev pub told_of_counts : Counts → Told
told_of_counts counts = record told_nothing { tally = record zero_tally { counts = counts } }

abbrev pub told_of_send : List Frame → Reply → Told
told_of_send frames reply =
    told_of_counts
    (record zero_counts {
      sent = length frames;
      short = sum (count_short reply);
      lone = sum (count_lone reply);
    })

abbrev pub told_of_grant : Reply → Told
told_of_grant reply = record told_nothing {
  tally = record {
    counts = record zero_counts { given = sum (count_given reply); full = sum (count_full reply) };
    gone = sum (count_gone reply);
    unread = 0;
  };
}

abbrev pub told_of_receive : Reply → Told
told_of_receive reply = told_of_counts (record zero_counts { read = sum (count_gave reply) })

-- of the port itself, and of its other end
abbrev pub told_of_put : Reply → Told
told_of_put reply = told_of_counts (record zero_counts { sent = length (kept_items reply) })

abbrev pub told_of_taken : Reply → Told
told_of_taken reply = told_of_counts (record zero_counts { given = length (kept_items reply) })

abbrev pub told_of_shut : ℕ → Told
told_of_shut number = record told_nothing { shut = Some number }

abbrev pub told_of_finish : ℕ → Reply → Told
told_of_finish number reply = record {
  tally = record zero_tally { unread = sum (count_unread reply) };
  shut = None;
  finished = Some number;
}

abbrev pub told_by_put : List End → ℕ → Reply → ℕ → Told
told_by_put ends at reply port =
    told_both (told_if (at == port) (told_of_put reply))
    (told_if (is_port (peer_among ends at) port) (told_of_taken reply))

-- what an entry of this number tells of a port
abbrev pub told_by : ℕ → List End → Ask → Reply → ℕ → Told
told_by number ends (Send from frames) reply port =
    told_if (from.0 == port) (told_of_send frames reply)
told_by number ends (Grant origin to) reply port = told_if (to.0 == port) (told_of_grant reply)
told_by number ends (Sync at back) reply port = told_if (at.0 == port) (told_of_receive reply)
told_by number ends (Get at back) reply port = told_if (at.0 == port) (told_of_receive reply)
told_by number ends (PutKept at offered) reply port = told_by_put ends at.0 reply port
told_by number ends (Shut at) reply port = told_if (at.0 == port) (told_of_shut number)
told_by number ends (Finish at bufs chain) reply port =
    told_if (at.0 == port) (told_of_finish number reply)
told_by number ends _ reply port = told_nothing
