-- How runs end, worked: the line of each status, and what limits say.
use Rattle.std.specs.Prelude.{ℕ, true, ◌≡◌, ◌+◌, ◌≤◌, List, [], ◌∷◌, length, map, codes, Option, Some, None, refl}
use Rattle.std.specs.Fmt.{digits}
use Rattle.std.specs.Str.Lines.{lines}
use Rattle.std.specs.List.{AllByRecursion}
use Rattle.nm_types.specs.Limits.{most_script_bytes, most_script_lines, most_counts, most_capture_bytes, most_played, most_text}
use Rattle.nm_types.specs.declared.fault.LineCause.TheVariants.{Word, Count, Number, Name, User, Port, Order, Twice}
use Rattle.nm_types.specs.declared.fault.Part.{Part}
use Rattle.nm_types.specs.declared.limits.Limits.{Limits}
use Rattle.nm_io.specs.Files.{Files}
use Rattle.nm_io.specs.Held.{grown, GrowsByPrefix}
use Rattle.pcap_io.specs.declared.fault.PcapFault.TheVariants as pcap
use Rattle.vale_entry.specs.declared.entry.Entry.{Entry}
use Rattle.vale_entry.specs.Fate.{Pending, fates_at}
use Rattle.vale_entry.specs.Transcript.{text_of}
use Rattle.vale_words.specs.Words.{number_in}
use Rattle.vale_script.specs.Script.{Program}
use Rattle.vale_captures.specs.Counting.{counts_of, frames_played}
use Rattle.vale_captures.specs.declared.inputs.InputFault.{InputFault}
use Rattle.vale_captures.specs.Inputs.{InputFile}
use Rattle.vale_captures.specs.Outputs.{OutputFile, all_appended}
use Rattle.vale_replay.specs.Replay.{Cast}
use Rattle.vale_run.specs.declared.status.What.{What}
use Rattle.vale_run.specs.declared.status.What.TheVariants.{Script, Lines, Counts, Inputs, Frames, Entries, Bytes, Text}
use Rattle.vale_run.specs.declared.status.Status.{Status}
use Rattle.vale_run.specs.declared.status.Status.TheVariants.{Done, Usage, BadScript, WriteFault, Over, NoMemory}
use Rattle.vale_run.specs.Delivery.{HaveOneOwner, Delivers}
use Rattle.vale_run.specs.Load.{load_number, load_line, LoadOf}
use Rattle.vale_run.specs.Migrate.{text_name, Migrated, new_text, EndsText}
use Rattle.vale_run.specs.Run.{Io, CountsRise, HasRisen, WritesNothing, script_name, IsScript, IsAccepted, StopsAtInput, IsHistoryOf, HistoryOf, WritesWhole, WritesText, WritesSaved, StopsFull}
use Rattle.vale_run.specs.Status.{code_of, offset_of, capture_text, status_text, usage_line, bad_script_line, read_fault_line, write_fault_line, bad_capture_line, over_line, bad_text_line, no_memory_line}

-- The words of a command.

scripts : map script_name ((codes "run" ∷ codes "f" ∷ []) ∷ (codes "Run" ∷ codes "f" ∷ []) ∷ (codes "load" ∷ codes "7" ∷ []) ∷ (codes "run" ∷ []) ∷ (codes "run" ∷ codes "f" ∷ codes "g" ∷ []) ∷ [] ∷ []) ≡ Some (codes "f") ∷ None ∷ None ∷ None ∷ None ∷ None ∷ []
scripts = refl

texts : map text_name ((codes "migrate" ∷ codes "f" ∷ []) ∷ (codes "run" ∷ codes "f" ∷ []) ∷ []) ≡ Some (codes "f") ∷ None ∷ []
texts = refl

-- a load's number has 1 to 20 digits, and 64 bits
loads : map load_number ((codes "load" ∷ codes "7" ∷ []) ∷ (codes "load" ∷ codes "00000000000000000007" ∷ []) ∷ (codes "load" ∷ codes "18446744073709551615" ∷ []) ∷ (codes "load" ∷ codes "18446744073709551616" ∷ []) ∷ (codes "load" ∷ codes "000000000000000000007" ∷ []) ∷ (codes "load" ∷ codes "x" ∷ []) ∷ (codes "run" ∷ codes "7" ∷ []) ∷ (codes "load" ∷ []) ∷ []) ≡ Some 7 ∷ Some 7 ∷ Some 18446744073709551615 ∷ None ∷ None ∷ None ∷ None ∷ None ∷ []
unfolding number_in
loads = refl

load_answer : load_line 7 8000 731072 8192 ≡ codes "load 7 users 4 frames 8000 bytes 731072 free 8192\n"
unfolding load_line digits
load_answer = refl

-- The line of each status.

no_line : status_text Done ≡ []
no_line = refl

usage : status_text Usage ≡ codes "usage: vale run SCRIPT | vale load N | vale migrate FILE\n"
unfolding usage_line
usage = refl

bad_scripts : map status_text (BadScript 1 Word ∷ BadScript 20 Count ∷ BadScript 3 Number ∷ BadScript 4 Name ∷ BadScript 5 User ∷ BadScript 6 Port ∷ BadScript 7 Order ∷ BadScript 10000 Twice ∷ []) ≡ codes "vale: script line 1: word\n" ∷ codes "vale: script line 20: count\n" ∷ codes "vale: script line 3: number\n" ∷ codes "vale: script line 4: name\n" ∷ codes "vale: script line 5: user\n" ∷ codes "vale: script line 6: port\n" ∷ codes "vale: script line 7: order\n" ∷ codes "vale: script line 10000: twice\n" ∷ []
unfolding bad_script_line digits
bad_scripts = refl

read_fault : read_fault_line (codes "in.pcap") ≡ codes "vale: cannot read in.pcap\n"
unfolding read_fault_line
read_fault = refl

write_fault : status_text WriteFault ≡ codes "vale: cannot write\n"
unfolding write_fault_line
write_fault = refl

no_memory : status_text NoMemory ≡ codes "vale: no memory\n"
unfolding no_memory_line
no_memory = refl

bad_capture : bad_capture_line (codes "in.pcap") 24 (codes "record") ≡ codes "vale: in.pcap: byte 24: record\n"
unfolding bad_capture_line digits
bad_capture = refl

bad_text : bad_text_line (codes "old") 17 ≡ codes "vale: old: line 17\n"
unfolding bad_text_line digits
bad_text = refl

capture_causes : map capture_text (pcap.BadMagic 1 ∷ pcap.BadVersion 2 5 ∷ pcap.BadLink 113 ∷ pcap.LongRecord 42 262145 ∷ pcap.Truncated 42 ∷ []) ≡ codes "magic" ∷ codes "version" ∷ codes "link" ∷ codes "record" ∷ codes "truncated" ∷ []
capture_causes = refl

-- where in a capture it is: the magic stands at byte 0, the version at 4, the link at 20
capture_offsets : map offset_of (pcap.BadMagic 1 ∷ pcap.BadVersion 2 5 ∷ pcap.BadLink 113 ∷ pcap.LongRecord 42 262145 ∷ pcap.Truncated 58 ∷ []) ≡ 0 ∷ 4 ∷ 20 ∷ 42 ∷ 58 ∷ []
capture_offsets = refl

-- Each quantity one above its limit, and those of a record above limits of 8 and 9.

abbrev past : What → ℕ → Status
past what limit = Over what (limit + 1) limit

passed_limits : map status_text (past Script most_script_bytes ∷ past Lines most_script_lines ∷ past Counts most_counts ∷ past Inputs most_capture_bytes ∷ past Frames most_played ∷ past Entries 8 ∷ past Bytes 9 ∷ past Text most_text ∷ []) ≡ codes "vale: script 1048577 over 1048576\n" ∷ codes "vale: lines 10001 over 10000\n" ∷ codes "vale: counts 1000001 over 1000000\n" ∷ codes "vale: inputs 67108865 over 67108864\n" ∷ codes "vale: frames 1000001 over 1000000\n" ∷ codes "vale: entries 9 over 8\n" ∷ codes "vale: bytes 10 over 9\n" ∷ codes "vale: text 268435457 over 268435456\n" ∷ []
unfolding over_line digits
passed_limits = refl

exit_codes : map code_of (Done ∷ Usage ∷ BadScript 1 Word ∷ WriteFault ∷ past Script 1 ∷ past Text 1 ∷ NoMemory ∷ []) ≡ 0 ∷ 2 ∷ 3 ∷ 5 ∷ 7 ∷ 7 ∷ 8 ∷ []
exit_codes = refl

-- What a history that a run writes says of its frames: none that an entry wants is pending at its end.
settled_frames : (pool : ℕ) (history : List Entry) → Delivers pool history → (number to : ℕ) → AllByRecursion (λ fate. fate ≡ Pending → ⊥) (fates_at pool history number to)
settled_frames pool history delivers number to = delivers.none_pending number to

-- A history that a run writes is of a script within all limits: its bytes and lines, the frames that it puts
-- and forwards, and the bytes and frames of the captures that it plays.

abbrev accepted_in : {limits : Limits} {files : Option Files} {name : List ℕ} (run : HistoryOf limits files name) → IsAccepted files name run.program
accepted_in run = run.ready.has_inputs.counted.accepted

script_within : (limits : Limits) (files : Option Files) (name : List ℕ) (run : HistoryOf limits files name)
    → (length (accepted_in run).script ≤ 1048576) × (length (lines (accepted_in run).script) ≤ 10000)
script_within limits files name run = ((accepted_in run).is_script.short, (accepted_in run).few_lines)

frames_within : (limits : Limits) (files : Option Files) (name : List ℕ) (run : HistoryOf limits files name)
    → (counts_of run.program ≤ 1000000) × ((run.ready.has_inputs.size ≤ 67108864) × (frames_played run.program run.played ≤ 1000000))
frames_within limits files name run = (run.ready.has_inputs.counted.few_counts, (run.ready.has_inputs.within, run.ready.few_frames))

-- What such a history says is all of this, and no clause of it may go.

whole_history : (limits : Limits) (program : Program) (played : List InputFile) (history : List Entry) (cast : Cast) (h : IsHistoryOf limits program played history cast)
    → h ≡ record { legal = h.legal; plays = h.plays; told = h.told; region = h.region; roomy = h.roomy; delivers = h.delivers; owned = h.owned; left = h.left; back = h.back }
whole_history limits program played history cast h = refl

whole_delivery : (pool : ℕ) (history : List Entry) (d : Delivers pool history)
    → d ≡ record { read_in_order = d.read_in_order; given_where_wanted = d.given_where_wanted; put_once = d.put_once; shared_once = d.shared_once; dropped_counted = d.dropped_counted; dropped_for_cause = d.dropped_for_cause; replies_count = d.replies_count; in_sender_order = d.in_sender_order; none_pending = d.none_pending; named_wanting = d.named_wanting; short_and_lone = d.short_and_lone; put_as_told = d.put_as_told; leases_done_once = d.leases_done_once; out_counted = d.out_counted; counters_are_sums = d.counters_are_sums; one_owner = d.one_owner }
whole_delivery pool history d = refl

whole_stop : (limits : Limits) (files : Option Files) (name : List ℕ) (part : Part) (count : ℕ) (s : StopsFull limits files name part count)
    → s ≡ record { program = s.program; played = s.played; ready = s.ready; sound = s.sound; history = s.history; region = s.region; roomy = s.roomy; before = s.before; user = s.user; call = s.call; stopped = s.stopped; used = s.used; want = s.want; refused = s.refused; counted = s.counted }
whole_stop limits files name part count s = refl

whole_run : (limits : Limits) (files : Option Files) (name : List ℕ) (run : HistoryOf limits files name)
    → run ≡ record { program = run.program; played = run.played; ready = run.ready; entries = run.entries; cast = run.cast; history = run.history }
whole_run limits files name run = refl

whole_load : (limits : Limits) (n : ℕ) (load : LoadOf limits n) → load ≡ record { entries = load.entries; cast = load.cast; history = load.history }
whole_load limits n load = refl

whole_owners : (pool : ℕ) (history : List Entry) (owned : HaveOneOwner pool history) → owned ≡ record { parted = owned.parted; agrees = owned.agrees }
whole_owners pool history owned = refl

-- A capture that was not read is named, and is of a script that was accepted.
stopped_input : (files : Option Files) (reads : List ℕ → ℕ × ℕ) (name : List ℕ) (fault : InputFault) (which : List ℕ) (s : StopsAtInput files reads name fault which)
    → (s.stops.name ≡ which) × (counts_of s.program ≤ 1000000)
stopped_input files reads name fault which s = (s.name_is, s.counted.few_counts)

-- What was written, and that the count of faults tells of a failure.

nothing_written : (io : Io) → WritesNothing io → (io.new_holds ≡ io.holds) × (io.new_files ≡ io.files)
nothing_written io nothing = (nothing.sink, nothing.shelf)

whole_written : (text : List ℕ) (saved : List OutputFile) (io : Io) → WritesWhole text saved io
    → (io.new_holds ≡ grown io.holds text) × (io.new_files ≡ all_appended io.files saved)
whole_written text saved io whole = (whole.sink, whole.shelf)

part_written : (text : List ℕ) (io : Io) → WritesText text io true → GrowsByPrefix io.holds io.new_holds text × ((io.new_files ≡ io.files) × HasRisen io.writes)
part_written text io part = (part.sink, (part.shelf, part.rose refl))

captures_part_written : (text : List ℕ) (saved : List OutputFile) (io : Io) (w : WritesSaved text saved io true)
    → (io.new_holds ≡ grown io.holds text) × HasRisen (io.appends w.shelf.output.file)
captures_part_written text saved io w = (w.sink, w.shelf.rose refl)

faults_rise : (io : Io) (rise : CountsRise io) → rise ≡ record { reads = rise.reads; appends = rise.appends; writes = rise.writes }
faults_rise io rise = refl

-- A text that is migrated has few bytes, is written in version 2, and leaves all files.
migrated : (io : Io) (name : List ℕ) (status : Status) (e : EndsText io name status) → (length e.text ≤ 268435456) × (io.new_files ≡ io.files)
migrated io name status e = (e.short, e.shelf)

new_version : (bytes : List ℕ) (m : Migrated bytes) → new_text m ≡ text_of 2 m.pool m.entries m.free
new_version bytes m = refl
