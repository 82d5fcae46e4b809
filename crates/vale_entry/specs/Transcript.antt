-- The transcript's text: a first line with its version and the pool, a line for each entry, a last
-- line with the number of entries and the free buffers. A line ends with a line feed; one blank
-- stands between two words. The newest version, which is written, lists buffers in spans of
-- neighbours; the first one lists each by itself, and is read as well.
use Rattle.std.specs.Prelude.{ℕ, Bool, true, false, not, ◌&&◌, ◌==◌, ◌+◌, ◌/◌, ◌%◌, nat_lt, if◌then◌else◌, List, [], ◌∷◌, ◌++◌, length, map, flat_map, codes, decimal, IsTrue}
use Rattle.std.specs.List.{join_with_byte, list_all}
use Rattle.nm_types.specs.Frames.{Frame}
use Rattle.nm_types.specs.Names.{is_name}
use Rattle.nm_types.specs.SyncFaults.{is_check_fault}
use Rattle.nm_types.specs.declared.fault.OpenFault.{OpenFault}
use Rattle.nm_types.specs.declared.fault.OpenFault.TheVariants.{BadSize, SwitchesFull, PortsFull, NameTaken, NoBuffers, RecordFull, NoMemory}
use Rattle.nm_types.specs.declared.fault.SyncFault.{SyncFault}
use Rattle.nm_types.specs.declared.fault.SyncFault.TheVariants.{HeadOut, CurOut, Indirect, IndexOut, NotHeld, Doubled, Unannounced, LongLen, Fragment}
use Rattle.nm_types.specs.declared.id.Side.{Side}
use Rattle.nm_types.specs.declared.id.Side.TheVariants.{Tx, Rx}
use Rattle.nm_types.specs.declared.id.Sides.{Sides}
use Rattle.nm_types.specs.declared.id.Sides.TheVariants.{T, R, TR}
use Rattle.nm_types.specs.declared.id.Counts.{Counts}
use Rattle.vale_entry.specs.declared.entry.Dest.{Dest}
use Rattle.vale_entry.specs.declared.entry.Item.{Item}
use Rattle.vale_entry.specs.declared.entry.Ask.{Ask}
use Rattle.vale_entry.specs.declared.entry.Ask.TheVariants.{Enter, Open, Send, Grant, Done, Sync, Reset, Shut, Finish, Leave, Put, PutKept, Get, Watch, Stat}
use Rattle.vale_entry.specs.declared.entry.Reply.{Reply}
use Rattle.vale_entry.specs.declared.entry.Reply.TheVariants.{Made, Opened, Refused, Offered, Shared, Gave, Took, PeerGone, Unread, LeasesOut, Watching, NoTarget, Watched, Counted}
use Rattle.vale_entry.specs.declared.entry.Entry.{Entry}
use Rattle.vale_entry.specs.Legal.{world_of}
use Rattle.vale_entry.specs.World.{free_count}
use Rattle.vale_entry.specs.declared.entry.Span.{Span}
use Rattle.vale_entry.specs.Spans.{spans_in}

-- the version that is written
abbrev pub newest : ℕ
newest = 2

abbrev pub hex_digit : ℕ → ℕ
hex_digit n = if nat_lt n 10 then 48 + n else 87 + n

abbrev pub hex_byte : ℕ → List ℕ
hex_byte b = hex_digit (b / 16) ∷ hex_digit (b % 16) ∷ []

-- hexadecimal digits in lower case, or a dot where there are no bytes
abbrev pub hex_text : List ℕ → List ℕ
hex_text [] = 46 ∷ []
hex_text (b ∷ bs) = flat_map hex_byte (b ∷ bs)

-- a tilde marks a frame that teaches nothing
abbrev pub frame_text : Frame → List ℕ
frame_text frame = (if frame.no_learn then 126 ∷ [] else []) ++ hex_text frame.bytes

-- items with commas between them, or a dash where there are none
abbrev pub list_text : List (List ℕ) → List ℕ
list_text [] = 45 ∷ []
list_text (item ∷ items) = join_with_byte 44 (item ∷ items)

abbrev pub frames_text : List Frame → List ℕ
frames_text frames = list_text (map frame_text frames)

-- a number, or the first and the last of a span with a dash between them
abbrev pub span_text : Span → List ℕ
span_text span =
    if span.first == span.last then decimal span.first
    else decimal span.first ++ codes "-" ++ decimal span.last

abbrev pub buffers_text : ℕ → List ℕ → List ℕ
buffers_text version numbers = list_text (map span_text (spans_in version numbers))

abbrev pub dest_text : Dest → List ℕ
dest_text dest = decimal dest.to.0 ++ codes "*" ++ decimal dest.count

abbrev pub dests_text : List Dest → List ℕ
dests_text dests = list_text (map dest_text dests)

-- a frame that a pipe took, and its buffer
abbrev pub item_text : Item → List ℕ
item_text item = decimal item.index ++ codes ":" ++ hex_text item.bytes.bytes

abbrev pub items_text : List Item → List ℕ
items_text items = list_text (map item_text items)

abbrev pub side_word : Side → List ℕ
side_word Tx = codes "tx"
side_word Rx = codes "rx"

abbrev pub sides_word : Sides → List ℕ
sides_word T = codes "t"
sides_word R = codes "r"
sides_word TR = codes "tr"

-- why an opening was refused; the last two make no entry
abbrev pub refusal_words : OpenFault → List (List ℕ)
refusal_words BadSize = codes "badsize" ∷ []
refusal_words SwitchesFull = codes "switchesfull" ∷ []
refusal_words PortsFull = codes "portsfull" ∷ []
refusal_words NameTaken = codes "nametaken" ∷ []
refusal_words (NoBuffers want have) = codes "nobuffers" ∷ decimal want ∷ decimal have ∷ []
refusal_words (RecordFull what used want) = []
refusal_words NoMemory = []

-- why a sync was refused; the others make no entry of a reset
abbrev pub fault_words : SyncFault → List (List ℕ)
fault_words (HeadOut head from to) = codes "headout" ∷ decimal head ∷ decimal from ∷ decimal to ∷ []
fault_words (CurOut cur from to) = codes "curout" ∷ decimal cur ∷ decimal from ∷ decimal to ∷ []
fault_words (Indirect slot) = codes "indirect" ∷ decimal slot ∷ []
fault_words (IndexOut slot idx) = codes "indexout" ∷ decimal slot ∷ decimal idx ∷ []
fault_words (NotHeld slot idx) = codes "notheld" ∷ decimal slot ∷ decimal idx ∷ []
fault_words (Doubled slot idx) = codes "doubled" ∷ decimal slot ∷ decimal idx ∷ []
fault_words (Unannounced slot idx was) =
    codes "unannounced" ∷ decimal slot ∷ decimal idx ∷ decimal was ∷ []
fault_words (LongLen slot len) = codes "longlen" ∷ decimal slot ∷ decimal len ∷ []
fault_words (Fragment slot) = codes "fragment" ∷ decimal slot ∷ []
fault_words _ = []

-- the words of what was asked; a `Put` is never stored
abbrev pub ask_words : ℕ → ℕ → Ask → List (List ℕ)
ask_words version session (Enter user) = codes "enter" ∷ decimal user ∷ []
ask_words version session (Open asked name tx rx extra) =
    decimal session ∷ codes "open" ∷ name ∷ decimal tx ∷ decimal rx ∷ decimal extra ∷ []
ask_words version session (Send port frames) =
    decimal session ∷ codes "send" ∷ decimal port.0 ∷ frames_text frames ∷ []
ask_words version session (Grant origin to) =
    decimal session ∷ codes "grant" ∷ decimal origin ∷ decimal to.0 ∷ []
ask_words version session (Done lease) = decimal session ∷ codes "done" ∷ decimal lease.0 ∷ []
ask_words version session (Sync port back) =
    decimal session ∷ codes "sync" ∷ decimal port.0 ∷ buffers_text version back ∷ []
ask_words version session (Reset port side fault) =
    decimal session ∷ codes "reset" ∷ decimal port.0 ∷ side_word side ∷ fault_words fault
ask_words version session (Shut port) = decimal session ∷ codes "shut" ∷ decimal port.0 ∷ []
ask_words version session (Finish port bufs chain) =
    decimal session ∷ codes "finish" ∷ decimal port.0 ∷ buffers_text version bufs ∷ codes "found" ∷ decimal
    chain.found ∷ codes "astray" ∷ decimal chain.astray ∷ []
ask_words version session (Leave left) = decimal session ∷ codes "leave" ∷ []
ask_words version session (Put port offered) = []
ask_words version session (PutKept port offered) =
    decimal session ∷ codes "put" ∷ decimal port.0 ∷ decimal offered ∷ []
ask_words version session (Get port back) =
    decimal session ∷ codes "get" ∷ decimal port.0 ∷ buffers_text version back ∷ []
ask_words version session (Watch monitor target sides) =
    decimal session ∷ codes "watch" ∷ decimal monitor.0 ∷ target ∷ sides_word sides ∷ []
ask_words version session (Stat port) = decimal session ∷ codes "stat" ∷ decimal port.0 ∷ []

abbrev pub counts_words : Counts → List (List ℕ)
counts_words counts =
    codes "sent" ∷ decimal counts.sent ∷ codes "short" ∷ decimal counts.short ∷ codes "lone" ∷
    decimal counts.lone
    ∷ codes "given" ∷ decimal counts.given ∷ codes "full" ∷ decimal counts.full ∷ codes "read" ∷
    decimal counts.read ∷ []

-- the words of the answer; leases out make no entry
abbrev pub reply_words : Reply → List (List ℕ)
reply_words Made = []
reply_words Opened = codes "=" ∷ codes "ok" ∷ []
reply_words (Refused fault) = codes "=" ∷ refusal_words fault
reply_words (Offered short lone to) =
    codes "=" ∷ codes "short" ∷ decimal short ∷ codes "lone" ∷ decimal lone ∷ codes "to" ∷
    dests_text to ∷ []
reply_words (Shared given full gone) =
    codes "=" ∷ codes "given" ∷ decimal given ∷ codes "full" ∷ decimal full ∷ codes "gone" ∷ decimal
    gone ∷ []
reply_words (Gave count to) =
    codes "=" ∷ codes "gave" ∷ decimal count ∷ codes "to" ∷ dests_text to ∷ []
reply_words (Took items to) =
    codes "=" ∷ codes "took" ∷ items_text items ∷ codes "to" ∷ dests_text to ∷ []
reply_words PeerGone = codes "=" ∷ codes "peergone" ∷ []
reply_words (Unread count) = codes "=" ∷ codes "unread" ∷ decimal count ∷ []
reply_words (LeasesOut n) = []
reply_words (Watching target) = codes "=" ∷ codes "ok" ∷ decimal target.0 ∷ []
reply_words NoTarget = codes "=" ∷ codes "notarget" ∷ []
reply_words (Watched by) = codes "=" ∷ codes "watched" ∷ decimal by.0 ∷ []
reply_words (Counted counts) = codes "=" ∷ counts_words counts

-- a word behind a blank
abbrev pub after_blank : List ℕ → List ℕ
after_blank word = 32 ∷ word

abbrev pub words_text : List (List ℕ) → List ℕ
words_text words = flat_map after_blank words

-- an entry's number, the words of what was asked, and those of the answer
abbrev pub entry_line : ℕ → ℕ → Entry → List ℕ
entry_line version number entry =
    decimal number
    ++ words_text (ask_words version entry.session.0 entry.ask ++ reply_words entry.reply)
    ++ codes "\n"

abbrev pub entry_lines : ℕ → ℕ → List Entry → List ℕ
entry_lines version number [] = []
entry_lines version number (entry ∷ entries) =
    entry_line version number entry ++ entry_lines version (number + 1) entries

unfoldable pub start_line : ℕ → ℕ → List ℕ
start_line version pool =
    codes "vale " ++ decimal version ++ codes " pool " ++ decimal pool ++ codes "\n"

unfoldable pub end_line : ℕ → ℕ → List ℕ
end_line count free = codes "end " ++ decimal count ++ codes " free " ++ decimal free ++ codes "\n"

-- the first line, the entries' lines and the last one
unfoldable pub text_of : ℕ → ℕ → List Entry → ℕ → List ℕ
text_of version pool entries free =
    start_line version pool ++ entry_lines version 1 entries ++ end_line (length entries) free

-- the transcript of a history
abbrev pub transcript_text : ℕ → List Entry → List ℕ
transcript_text pool history = text_of newest pool history (free_count (world_of pool history))

-- destinations rise
abbrev pub dests_rise : List Dest → Bool
dests_rise [] = true
dests_rise (dest ∷ []) = true
dests_rise (dest ∷ next ∷ dests) = nat_lt dest.to.0 next.to.0 && dests_rise (next ∷ dests)

abbrev pub is_refusal : OpenFault → Bool
is_refusal (RecordFull what used want) = false
is_refusal NoMemory = false
is_refusal _ = true

abbrev pub is_unmarked : Item → Bool
is_unmarked item = not item.bytes.no_learn

-- an entry's ask and reply stand together in one line; destinations rise, a pipe's frames bear no
-- mark, an Enter's session is the entry's number, and that of an Open or a Leave is the one that it
-- names
abbrev pub is_printable : ℕ → ℕ → Ask → Reply → Bool
is_printable number session (Enter user) Made = session == number
is_printable number session (Open asked name tx rx extra) Opened =
    (session == asked.0) && is_name name
is_printable number session (Open asked name tx rx extra) (Refused fault) =
    (session == asked.0) && (is_name name && is_refusal fault)
is_printable number session (Send port frames) (Offered short lone to) = dests_rise to
is_printable number session (Grant origin to) (Shared given full gone) = true
is_printable number session (Done lease) Made = true
is_printable number session (Sync port back) (Gave count to) = dests_rise to
is_printable number session (Shut port) Made = true
is_printable number session (Finish port bufs chain) (Unread count) = true
is_printable number session (Leave left) Made = session == left.0
is_printable number session (Reset port side fault) Made = is_check_fault fault
is_printable number session (PutKept port offered) (Took items to) =
    list_all is_unmarked items && dests_rise to
is_printable number session (PutKept port offered) PeerGone = true
is_printable number session (Get port back) (Gave count to) = dests_rise to
is_printable number session (Watch monitor target sides) (Watching watched) = is_name target
is_printable number session (Watch monitor target sides) NoTarget = is_name target
is_printable number session (Watch monitor target sides) (Watched by) = is_name target
is_printable number session (Stat port) (Counted counts) = true
is_printable number session _ _ = false

abbrev pub IsPrintable : ℕ → Entry → Type 0
IsPrintable number entry = IsTrue (is_printable number entry.session.0 entry.ask entry.reply)
