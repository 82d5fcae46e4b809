-- How a run ends: the status of the process, and the line on standard error.
use Rattle.std.specs.Prelude.{ℕ, ◌≡◌, List, [], ◌++◌, ◌⊎◌, Option, codes, decimal, string_bytes}
use Rattle.nm_io.specs.Counts.{Rose}
use Rattle.nm_io.specs.Held.{grown, GrowsByPrefix}
use Rattle.vale_show.specs.declared.status.Status.{Status}
use Rattle.vale_show.specs.declared.status.Status.TheVariants.{Done, Usage, ReadFault, WriteFault, TooLong, NoMemory, BadText}

abbrev pub code_of : Status → ℕ
code_of Done = 0
code_of Usage = 2
code_of (ReadFault name) = 4
code_of WriteFault = 5
code_of TooLong = 7
code_of NoMemory = 8
code_of (BadText name line) = 9

unfoldable pub usage_line : List ℕ
usage_line = codes "usage: vale_show FILE [ports | frame ENTRY PLACE]\n"

unfoldable pub read_fault_line : List ℕ → List ℕ
read_fault_line name = codes "vale_show: cannot read " ++ name ++ codes "\n"

unfoldable pub write_fault_line : List ℕ
write_fault_line = codes "vale_show: cannot write\n"

unfoldable pub too_long_line : List ℕ
too_long_line = codes "vale_show: text 268435457 over 268435456\n"

unfoldable pub no_memory_line : List ℕ
no_memory_line = codes "vale_show: no memory\n"

unfoldable pub bad_text_line : List ℕ → ℕ → List ℕ
bad_text_line name line = codes "vale_show: " ++ name ++ codes ": line " ++ decimal line ++ codes "\n"

-- the line that says how a run ended; nothing if all was written
abbrev pub status_text : Status → List ℕ
status_text Done = []
status_text Usage = usage_line
status_text (ReadFault name) = read_fault_line (string_bytes name)
status_text WriteFault = write_fault_line
status_text TooLong = too_long_line
status_text NoMemory = no_memory_line
status_text (BadText name line) = bad_text_line (string_bytes name) line

-- the line was written, or by a failure a prefix of it; `faults` are the stream's before and after
abbrev pub Reports : ℕ × ℕ → Option (List ℕ) → Option (List ℕ) → List ℕ → Type 0
Reports faults old new line = (new ≡ grown old line) ⊎ (GrowsByPrefix old new line × Rose faults.0 faults.1)
