-- What is told of one frame of an entry: a line for it, and one for each port where it is wanted.
use Rattle.std.specs.Prelude.{ℕ, ◌||◌, ◌==◌, ◌-◌, nat_lt, if◌then◌else◌, List, ◌++◌, codes, decimal}
use Rattle.std.specs.List.{flat_map}
use Rattle.vale_entry.specs.declared.entry.Entry.{Entry}
use Rattle.vale_told.specs.declared.fates.Stay.{Stay}
use Rattle.vale_told.specs.declared.fates.Fate.{Fate}
use Rattle.vale_told.specs.declared.fates.Fate.TheVariants.{Unknown, Pending, Full, Gone, Given}
use Rattle.vale_told.specs.declared.fates.Trace.{Trace}
use Rattle.vale_told.specs.Fates.{entry_at, frames_in, traces_told}
use Rattle.vale_show.specs.Page.{or_dash}

unfoldable pub no_frame_line : ℕ → ℕ → List ℕ
no_frame_line number place = codes "entry " ++ decimal number ++ codes " has no frame " ++ decimal place ++ codes "\n"

unfoldable pub frame_line : ℕ → ℕ → ℕ → List ℕ
frame_line number place all = codes "entry " ++ decimal number ++ codes " frame " ++ decimal place ++ codes " of " ++ decimal all ++ codes "\n"

unfoldable pub trace_start : Trace → List ℕ
trace_start trace = codes "port " ++ decimal trace.to ++ codes " wants " ++ decimal trace.count

unfoldable pub unknown_words : List ℕ
unknown_words = codes " unknown\n"

unfoldable pub pending_words : List ℕ
pending_words = codes " pending\n"

unfoldable pub full_words : ℕ → List ℕ
full_words by = codes " full " ++ decimal by ++ codes "\n"

unfoldable pub gone_words : ℕ → List ℕ
gone_words by = codes " gone " ++ decimal by ++ codes "\n"

unfoldable pub given_words : Stay → List ℕ
given_words stay =
    codes " given " ++ decimal stay.by ++ codes " done " ++ or_dash stay.done ++ codes " read " ++ or_dash stay.read
    ++ codes " finished " ++ or_dash stay.finished ++ codes "\n"

abbrev pub fate_words : Fate → List ℕ
fate_words Unknown = unknown_words
fate_words Pending = pending_words
fate_words (Full by) = full_words by
fate_words (Gone by) = gone_words by
fate_words (Given stay) = given_words stay

abbrev pub trace_line : Trace → List ℕ
trace_line trace = trace_start trace ++ fate_words trace.fate

-- places are counted from 1
abbrev pub frame_text : List Entry → ℕ → ℕ → List ℕ
frame_text history number place =
    if (place == 0) || nat_lt (frames_in (entry_at history number)) place then
    no_frame_line number place
    else
    frame_line number place (frames_in (entry_at history number))
    ++ flat_map trace_line (traces_told history number (place - 1))
