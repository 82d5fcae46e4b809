-- What a line's words stand for, a row for each kind of line. The line's number is its first word; the
-- words that are the same in each line of a kind are not looked at.
use Rattle.std.specs.Prelude.{ℕ, if◌then◌else◌, List, codes, bytes_eq, Option, Some, option_map}
use Rattle.nm_types.specs.declared.fault.OpenFault.TheVariants.{BadSize, SwitchesFull, PortsFull, NameTaken, NoBuffers}
use Rattle.nm_types.specs.declared.fault.SyncFault.{SyncFault}
use Rattle.nm_types.specs.declared.fault.SyncFault.TheVariants.{HeadOut, CurOut, Indirect, IndexOut, NotHeld, Doubled, Unannounced, LongLen, Fragment}
use Rattle.nm_types.specs.declared.id.PortId.{PortId}
use Rattle.nm_types.specs.declared.id.SessionId.{SessionId}
use Rattle.nm_types.specs.declared.id.Counts.{Counts}
use Rattle.vale_entry.specs.declared.entry.Ask.{Ask}
use Rattle.vale_entry.specs.declared.entry.Ask.TheVariants as asks
use Rattle.vale_entry.specs.declared.entry.Reply.{Reply}
use Rattle.vale_entry.specs.declared.entry.Reply.TheVariants as replies
use Rattle.vale_entry.specs.declared.entry.Entry.{Entry}
use Rattle.vale_fields.specs.Fields.{long_of, short_of, half_of, name_of}
use Rattle.vale_fields.specs.Lists.{numbers_of, dests_of, items_of, frames_of}
use Rattle.vale_words.specs.Fixed.{side_of, sides_of, word_at}

abbrev pub short_at : ℕ → List (List ℕ) → ℕ
short_at i words = short_of (word_at i words)

abbrev pub long_at : ℕ → List (List ℕ) → ℕ
long_at i words = long_of (word_at i words)

abbrev pub port_at : ℕ → List (List ℕ) → PortId
port_at i words = record { 0 = short_at i words }

abbrev pub session_at : ℕ → List (List ℕ) → SessionId
session_at i words = record { 0 = short_at i words }

-- an entry of the session that the second word names
abbrev pub entry_by : List (List ℕ) → Ask → Reply → Entry
entry_by words ask reply = record { session = session_at 1 words; ask = ask; reply = reply }

abbrev pub enter_row : ℕ → List (List ℕ) → Entry
enter_row number words = record { session = (record { 0 = number }); ask = asks.Enter (long_at 2 words); reply = replies.Made }

abbrev pub open_answer : List ℕ → List (List ℕ) → Reply
open_answer word words =
    if bytes_eq word (codes "ok") then replies.Opened
    else (if bytes_eq word (codes "badsize") then replies.Refused BadSize
    else (if bytes_eq word (codes "switchesfull") then replies.Refused SwitchesFull
    else (if bytes_eq word (codes "portsfull") then replies.Refused PortsFull
    else (if bytes_eq word (codes "nametaken") then replies.Refused NameTaken
    else replies.Refused (NoBuffers (short_at 9 words) (short_at 10 words))))))

abbrev pub open_with : List (List ℕ) → List ℕ → Entry
open_with words name =
    entry_by words (asks.Open (session_at 1 words) name (short_at 4 words) (short_at 5 words) (short_at 6 words)) (open_answer (word_at 8 words) words)

abbrev pub open_row : List (List ℕ) → Option Entry
open_row words = option_map (open_with words) (name_of (word_at 3 words))

abbrev pub send_row : List (List ℕ) → Entry
send_row words = entry_by words (asks.Send (port_at 3 words) (frames_of (word_at 4 words))) (replies.Offered (short_at 7 words) (short_at 9 words) (dests_of (word_at 11 words)))

abbrev pub grant_row : List (List ℕ) → Entry
grant_row words = entry_by words (asks.Grant (short_at 3 words) (port_at 4 words)) (replies.Shared (short_at 7 words) (short_at 9 words) (short_at 11 words))

abbrev pub done_row : List (List ℕ) → Entry
done_row words = entry_by words (asks.Done (record { 0 = short_at 3 words })) replies.Made

abbrev pub gave_reply : List (List ℕ) → Reply
gave_reply words = replies.Gave (short_at 7 words) (dests_of (word_at 9 words))

abbrev pub sync_row : List (List ℕ) → Entry
sync_row words = entry_by words (asks.Sync (port_at 3 words) (numbers_of (word_at 4 words))) (gave_reply words)

abbrev pub get_row : List (List ℕ) → Entry
get_row words = entry_by words (asks.Get (port_at 3 words) (numbers_of (word_at 4 words))) (gave_reply words)

-- the row of a sync or of a get
abbrev pub back_row : List ℕ → List (List ℕ) → Entry
back_row verb words = if bytes_eq verb (codes "sync") then sync_row words else get_row words

abbrev pub fault_by : List ℕ → List (List ℕ) → SyncFault
fault_by word words =
    if bytes_eq word (codes "headout") then HeadOut (short_at 6 words) (short_at 7 words) (short_at 8 words)
    else (if bytes_eq word (codes "curout") then CurOut (short_at 6 words) (short_at 7 words) (short_at 8 words)
    else (if bytes_eq word (codes "indirect") then Indirect (short_at 6 words)
    else (if bytes_eq word (codes "indexout") then IndexOut (short_at 6 words) (short_at 7 words)
    else (if bytes_eq word (codes "notheld") then NotHeld (short_at 6 words) (short_at 7 words)
    else (if bytes_eq word (codes "doubled") then Doubled (short_at 6 words) (short_at 7 words)
    else (if bytes_eq word (codes "unannounced") then Unannounced (short_at 6 words) (short_at 7 words) (short_at 8 words)
    else (if bytes_eq word (codes "longlen") then LongLen (short_at 6 words) (half_of (word_at 7 words))
    else Fragment (short_at 6 words))))))))

abbrev pub reset_row : List (List ℕ) → Entry
reset_row words = entry_by words (asks.Reset (port_at 3 words) (side_of (word_at 4 words)) (fault_by (word_at 5 words) words)) replies.Made

abbrev pub shut_row : List (List ℕ) → Entry
shut_row words = entry_by words (asks.Shut (port_at 3 words)) replies.Made

abbrev pub finish_row : List (List ℕ) → Entry
finish_row words = entry_by words (asks.Finish (port_at 3 words) (numbers_of (word_at 4 words)) (record { found = short_at 6 words; astray = short_at 8 words })) (replies.Unread (short_at 11 words))

abbrev pub leave_row : List (List ℕ) → Entry
leave_row words = entry_by words (asks.Leave (session_at 1 words)) replies.Made

abbrev pub put_answer : List ℕ → List (List ℕ) → Reply
put_answer word words = if bytes_eq word (codes "took") then replies.Took (items_of (word_at 7 words)) (dests_of (word_at 9 words)) else replies.PeerGone

abbrev pub put_row : List (List ℕ) → Entry
put_row words = entry_by words (asks.PutKept (port_at 3 words) (short_at 4 words)) (put_answer (word_at 6 words) words)

abbrev pub watch_answer : List ℕ → List (List ℕ) → Reply
watch_answer word words =
    if bytes_eq word (codes "ok") then replies.Watching (port_at 8 words)
    else (if bytes_eq word (codes "watched") then replies.Watched (port_at 8 words)
    else replies.NoTarget)

abbrev pub watch_with : List (List ℕ) → List ℕ → Entry
watch_with words name = entry_by words (asks.Watch (port_at 3 words) name (sides_of (word_at 5 words))) (watch_answer (word_at 7 words) words)

abbrev pub watch_row : List (List ℕ) → Option Entry
watch_row words = option_map (watch_with words) (name_of (word_at 4 words))

abbrev pub counts_of : List (List ℕ) → Counts
counts_of words = record { sent = long_at 6 words; short = long_at 8 words; lone = long_at 10 words; given = long_at 12 words; full = long_at 14 words; read = long_at 16 words }

abbrev pub stat_row : List (List ℕ) → Entry
stat_row words = entry_by words (asks.Stat (port_at 3 words)) (replies.Counted (counts_of words))

-- the row of a verb; the line of an `enter` has its user where others have their verb
abbrev pub row_of : ℕ → List ℕ → List (List ℕ) → Option Entry
row_of number verb words =
    if bytes_eq verb (codes "open") then open_row words
    else (if bytes_eq verb (codes "send") then Some (send_row words)
    else (if bytes_eq verb (codes "grant") then Some (grant_row words)
    else (if bytes_eq verb (codes "done") then Some (done_row words)
    else (if bytes_eq verb (codes "sync") then Some (sync_row words)
    else (if bytes_eq verb (codes "get") then Some (get_row words)
    else (if bytes_eq verb (codes "reset") then Some (reset_row words)
    else (if bytes_eq verb (codes "shut") then Some (shut_row words)
    else (if bytes_eq verb (codes "finish") then Some (finish_row words)
    else (if bytes_eq verb (codes "leave") then Some (leave_row words)
    else (if bytes_eq verb (codes "put") then Some (put_row words)
    else (if bytes_eq verb (codes "watch") then watch_row words
    else (if bytes_eq verb (codes "stat") then Some (stat_row words)
    else Some (enter_row number words)))))))))))))

unfoldable pub entry_of : ℕ → List (List ℕ) → Option Entry
entry_of number words = row_of number (word_at 2 words) words
