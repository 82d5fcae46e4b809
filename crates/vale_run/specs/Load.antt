-- The words `load N`, and what a run of them promises: the load of N was played as a script is, and one line
-- says what was sent.
use Rattle.std.specs.Prelude.{ℕ, ◌≡◌, List, [], ◌++◌, length, sum_by, codes, decimal, Option}
use Rattle.std.specs.Option.{option_and_then}
use Rattle.nm_types.specs.Frames.{Frame, bytes_of_frames}
use Rattle.nm_types.specs.declared.limits.Limits.{Limits}
use Rattle.vale_entry.specs.declared.entry.Ask.{Ask}
use Rattle.vale_entry.specs.declared.entry.Ask.TheVariants.{Send}
use Rattle.vale_entry.specs.declared.entry.Entry.{Entry}
use Rattle.vale_entry.specs.World.{free_count}
use Rattle.vale_entry.specs.Legal.{world_of}
use Rattle.vale_replay.specs.Replay.{Cast}
use Rattle.vale_words.specs.Words.{number_in}
use Rattle.vale_gen.specs.Load.{load_program}
use Rattle.vale_run.specs.declared.status.Status.{Status}
use Rattle.vale_run.specs.declared.status.Status.TheVariants.{NoMemory}
use Rattle.vale_run.specs.Status.{WritesAnswer}
use Rattle.vale_run.specs.Run.{IsHistoryOf, word_behind}

-- the greatest number of 64 bits
abbrev pub most_load : ℕ
most_load = 18446744073709551615

-- the words `load N`, of which this gives the number: 1 to 20 decimal digits, as in a script
abbrev pub load_number : List (List ℕ) → Option ℕ
load_number words = option_and_then (number_in 0 most_load) (word_behind (codes "load") words)

-- the frames that are sent
abbrev pub frames_of_ask : Ask → List Frame
frames_of_ask (Send port frames) = frames
frames_of_ask _ = []

abbrev pub count_sent : Entry → ℕ
count_sent entry = length (frames_of_ask entry.ask)

abbrev pub bytes_sent : Entry → ℕ
bytes_sent entry = bytes_of_frames (frames_of_ask entry.ask)

unfoldable pub load_line : ℕ → ℕ → ℕ → ℕ → List ℕ
load_line n frames bytes free =
    codes "load " ++ decimal n ++ codes " users 4 frames " ++ decimal frames ++ codes " bytes " ++ decimal bytes ++ codes " free " ++ decimal free ++ codes "\n"

-- the line of a history: the frames and bytes of all its Sends, and the pool's free buffers at its end
abbrev pub load_text : ℕ → ℕ → List Entry → List ℕ
load_text n pool history =
    load_line n (sum_by count_sent history) (sum_by bytes_sent history) (free_count (world_of pool history))

-- a history that plays the load of a number; it plays no files
pub record LoadOf (limits : Limits) (n : ℕ) : Type 0 where
  pub entries : List Entry
  pub cast : Cast
  pub history : IsHistoryOf limits (load_program n) [] entries cast

abbrev pub text_in : {limits : Limits} {n : ℕ} → LoadOf limits n → List ℕ
text_in {n = n} load = load_text n (load_program n).pool load.entries

-- The load of this number was run, and this is how the run ended: its line was written, or by a failure a
-- prefix of it, or memory was wanting and nothing was written. A record is never full for it.
abbrev pub LoadEnds : Limits → ℕ → ℕ × ℕ → Option (List ℕ) → Option (List ℕ) → Status → Type 0
LoadEnds limits n faults old new NoMemory = new ≡ old
LoadEnds limits n faults old new status = (load : LoadOf limits n) × WritesAnswer (text_in load) faults old new status
