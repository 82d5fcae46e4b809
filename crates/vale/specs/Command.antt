-- What a command line asks for: a text about the program, or a run.
use Rattle.std.specs.Prelude.{ℕ, ◌≡◌, if◌then◌else◌, List, [], ◌∷◌, codes, Option, Some, None, bytes_eq}
use Rattle.nm_types.specs.declared.limits.Limits.{Limits}
use Rattle.vale_run.specs.declared.status.Status.{Status}
use Rattle.vale_run.specs.Status.{WritesAnswer}
use Rattle.vale_run.specs.Run.{Io}
use Rattle.vale_run.specs.Commands.{Runs}

unfoldable pub help_text : List ℕ
help_text = codes "usage: vale run SCRIPT | vale load N | vale migrate FILE\n\n  run SCRIPT  runs a script of netmap rings, VALE switches, pipes and monitors, and writes the\n              transcript of what they did\n  load N      runs four users of one switch side by side, who send 8,000 frames that hang on the\n              number N, and writes one line of what was sent\n  migrate FILE\n              writes a transcript of version 1 or 2 in version 2\n\nLines of a script (a SIDE is tx or rx, a MAC as 02:00:00:00:00:0a):\n  pool N                             the pool has N buffers (the first line)\n  user U                             a user enters\n  open U NAME TX RX [EXTRA]          opens a port, with rings of TX and RX slots and extra buffers\n  put U NAME N MAC MAC LEN FILL      puts N frames of LEN bytes, to and from these addresses\n  hex U NAME HEX                     puts one frame of these bytes\n  play U NAME FILE BATCH             puts the frames of a capture, with a tx after each BATCH\n  tx U NAME                          syncs the transmit ring\n  rx U NAME [keep]                   gives all received frames back, and syncs the receive ring\n  fwd U NAME NAME N                  forwards up to N frames without a copy\n  poke U NAME SIDE SLOT FIELD VALUE  writes idx, len, flags or ptr of a slot\n  move U NAME SIDE HEAD CUR          sets head and cur of a ring\n  swap U NAME SIDE SLOT NAME SIDE SLOT [quiet]\n                                     exchanges the buffers of two slots\n  extra U NAME I J                   links extra buffer I to J\n  watch U MON NAME SIDES             has a monitor watch a port (t, r or tr)\n  stat U NAME                        reads a port's counters\n  save U NAME FILE                   saves the frames that the port gives, as a capture\n  close U NAME                       closes the port\n  par .. end                         the lines between run side by side, user by user\n  # ..                               a comment\n"

unfoldable pub version_text : List ℕ
version_text = codes "vale 0.1.0\n"

-- the text that the one word `--help` or `--version` asks for
abbrev pub answer_to : List (List ℕ) → Option (List ℕ)
answer_to (word ∷ []) =
    if bytes_eq word (codes "--help") then Some help_text
    else if bytes_eq word (codes "--version") then Some version_text
    else None
answer_to _ = None

-- the text that was asked for is written; all other words are a run's
abbrev pub Answers : Limits → Option (List ℕ) → Option (List ℕ) → Option ℕ → Option (List ℕ) → Io → Status → Type 0
Answers limits (Some text) name load file io status = WritesAnswer text io.writes io.holds io.new_holds status × (io.new_files ≡ io.files)
Answers limits None name load file io status = Runs limits name load file io status
