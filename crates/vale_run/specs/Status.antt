-- How a run ends: the status of the process, and the line on standard error.
use Rattle.std.specs.Prelude.{ℕ, ◌≡◌, List, [], ◌++◌, ◌⊎◌, Option, codes, decimal, string_bytes}
use Rattle.nm_io.specs.Counts.{Rose}
use Rattle.nm_io.specs.Held.{grown, GrowsByPrefix}
use Rattle.nm_types.specs.declared.fault.LineCause.{LineCause}
use Rattle.nm_types.specs.declared.fault.LineCause.TheVariants.{Word, Count, Number, Name, User, Port, Order, Twice}
use Rattle.pcap_io.specs.declared.fault.PcapFault.{PcapFault}
use Rattle.pcap_io.specs.declared.fault.PcapFault.TheVariants as pcap
use Rattle.vale_run.specs.declared.status.What.{What}
use Rattle.vale_run.specs.declared.status.What.TheVariants.{Script, Lines, Counts, Inputs, Frames, Entries, Bytes, Text}
use Rattle.vale_run.specs.declared.status.Status.{Status}
use Rattle.vale_run.specs.declared.status.Status.TheVariants.{Done, Usage, BadScript, ReadFault, WriteFault, BadPcap, Over, NoMemory, BadText}

abbrev pub code_of : Status → ℕ
code_of Done = 0
code_of Usage = 2
code_of (BadScript line cause) = 3
code_of (ReadFault name) = 4
code_of WriteFault = 5
code_of (BadPcap name offset cause) = 6
code_of (Over what count limit) = 7
code_of NoMemory = 8
code_of (BadText name line) = 9

abbrev pub cause_text : LineCause → List ℕ
cause_text Word = codes "word"
cause_text Count = codes "count"
cause_text Number = codes "number"
cause_text Name = codes "name"
cause_text User = codes "user"
cause_text Port = codes "port"
cause_text Order = codes "order"
cause_text Twice = codes "twice"

-- the word for what is wrong with a capture, and the byte at which it is
abbrev pub capture_text : PcapFault → List ℕ
capture_text (pcap.BadMagic magic) = codes "magic"
capture_text (pcap.BadVersion major minor) = codes "version"
capture_text (pcap.BadLink link) = codes "link"
capture_text (pcap.LongRecord offset len) = codes "record"
capture_text (pcap.Truncated offset) = codes "truncated"
capture_text pcap.NoMemory = []

abbrev pub offset_of : PcapFault → ℕ
offset_of (pcap.BadMagic magic) = 0
offset_of (pcap.BadVersion major minor) = 4
offset_of (pcap.BadLink link) = 20
offset_of (pcap.LongRecord offset len) = offset
offset_of (pcap.Truncated offset) = offset
offset_of pcap.NoMemory = 0

abbrev pub what_text : What → List ℕ
what_text Script = codes "script"
what_text Lines = codes "lines"
what_text Counts = codes "counts"
what_text Inputs = codes "inputs"
what_text Frames = codes "frames"
what_text Entries = codes "entries"
what_text Bytes = codes "bytes"
what_text Text = codes "text"

unfoldable pub usage_line : List ℕ
usage_line = codes "usage: vale run SCRIPT | vale load N | vale migrate FILE\n"

unfoldable pub bad_script_line : ℕ → List ℕ → List ℕ
bad_script_line line cause = codes "vale: script line " ++ decimal line ++ codes ": " ++ cause ++ codes "\n"

unfoldable pub read_fault_line : List ℕ → List ℕ
read_fault_line name = codes "vale: cannot read " ++ name ++ codes "\n"

unfoldable pub write_fault_line : List ℕ
write_fault_line = codes "vale: cannot write\n"

unfoldable pub bad_capture_line : List ℕ → ℕ → List ℕ → List ℕ
bad_capture_line name offset cause = codes "vale: " ++ name ++ codes ": byte " ++ decimal offset ++ codes ": " ++ cause ++ codes "\n"

unfoldable pub over_line : List ℕ → ℕ → ℕ → List ℕ
over_line what count limit = codes "vale: " ++ what ++ codes " " ++ decimal count ++ codes " over " ++ decimal limit ++ codes "\n"

unfoldable pub bad_text_line : List ℕ → ℕ → List ℕ
bad_text_line name line = codes "vale: " ++ name ++ codes ": line " ++ decimal line ++ codes "\n"

unfoldable pub no_memory_line : List ℕ
no_memory_line = codes "vale: no memory\n"

-- the line on standard error
abbrev pub status_text : Status → List ℕ
status_text Done = []
status_text Usage = usage_line
status_text (BadScript line cause) = bad_script_line line (cause_text cause)
status_text (ReadFault name) = read_fault_line (string_bytes name)
status_text WriteFault = write_fault_line
status_text (BadPcap name offset cause) = bad_capture_line (string_bytes name) offset (capture_text cause)
status_text (Over what count limit) = over_line (what_text what) count limit
status_text NoMemory = no_memory_line
status_text (BadText name line) = bad_text_line (string_bytes name) line

-- the line was written, or by a failure a prefix of it; `faults` are the stream's before and after
abbrev pub Reports : ℕ × ℕ → Option (List ℕ) → Option (List ℕ) → List ℕ → Type 0
Reports faults old new line = (new ≡ grown old line) ⊎ (GrowsByPrefix old new line × Rose faults.0 faults.1)

-- A text was written whole, or by a failure a prefix of it, and nothing else happened; `faults` are the
-- output's before and after.
abbrev pub WritesAnswer : List ℕ → ℕ × ℕ → Option (List ℕ) → Option (List ℕ) → Status → Type 0
WritesAnswer text faults old new Done = new ≡ grown old text
WritesAnswer text faults old new WriteFault = GrowsByPrefix old new text × Rose faults.0 faults.1
WritesAnswer text faults old new _ = ⊥
