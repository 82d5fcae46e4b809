-- An entry's line as words: which words each kind of line has, and that the words tell the entry.
use Rattle.std.specs.List.{AllByRecursion as Each, list_all}
use Rattle.std.proofs.lemmas.List.{append-nil}
use Rattle.std.proofs.Common.{ℕ, zero, suc, ◌+◌, ◌*◌, ◌≡◌, ◌==◌, ◌&&◌, true, false, List, [], ◌∷◌, ◌++◌, drop, codes, decimal, IsTrue, Option, Some, None, refl, sym, ◌∙◌, ap, arith, append_assoc}
use Rattle.std.proofs.lemmas.Bool.{and_parts, eqb-true}
use Rattle.nm_types.specs.Frames.{Frame}
use Rattle.nm_types.specs.Names.{is_name}
use Rattle.nm_types.specs.declared.fault.OpenFault.{OpenFault}
use Rattle.nm_types.specs.declared.fault.OpenFault.TheVariants.{BadSize, SwitchesFull, PortsFull, NameTaken, NoBuffers, RecordFull, NoMemory}
use Rattle.nm_types.specs.declared.id.SessionId.{SessionId}
use Rattle.vale_entry.specs.declared.entry.Dest.{Dest}
use Rattle.vale_entry.specs.declared.entry.Ask.{Ask}
use Rattle.vale_entry.specs.declared.entry.Ask.TheVariants.{Enter, Open, Send, Grant, Done, Sync, Reset, Shut, Finish, Leave, PutKept, Get, Watch, Stat}
use Rattle.vale_entry.specs.declared.entry.Reply.{Reply}
use Rattle.vale_entry.specs.declared.entry.Reply.TheVariants.{Made, Opened, Refused, Offered, Shared, Gave, Took, PeerGone, Unread, Watching, NoTarget, Watched, Counted}
use Rattle.vale_entry.specs.declared.entry.Entry.{Entry}
use Rattle.vale_entry.specs.Transcript.{frames_text, buffers_text, dests_text, items_text, side_word, sides_word, fault_words, counts_words, ask_words, reply_words, refusal_words as fault_of_open, is_unmarked, dests_rise, words_text, entry_line, is_refusal, is_printable, IsPrintable}
use Rattle.nm_types.specs.SyncFaults.{is_check_fault}
use Rattle.nm_types.specs.declared.fault.SyncFault.{SyncFault}
use Rattle.nm_types.specs.declared.fault.SyncFault.TheVariants as checks
use Rattle.nm_types.specs.declared.id.Side.{Side}
use Rattle.nm_types.specs.declared.id.Side.TheVariants as rings
use Rattle.nm_types.specs.declared.id.Sides.{Sides}
use Rattle.nm_types.specs.declared.id.Sides.TheVariants as watched_sides
use Rattle.nm_types.specs.declared.id.Counts.{Counts}
use Rattle.vale_entry.specs.declared.entry.Item.{Item}
use Rattle.vale_entry.specs.Fits.{FitsU64, FitsEntry, u64_widths, DestFits, RefusalFits, FaultFits, ReplyFits, CountsFits, AskFits}
use Rattle.vale_fields.proofs.Cuts.{IsWord, spell}
use Rattle.vale_fields.proofs.Texts.{decimal-word, decimal-same as equal, decimal-digits, not-number, buffers-same, buffers-word, dests-same, dests-word, frames-same, frames-word, IsPlainItem, plain-items, items-same, items-word}
use Rattle.vale_text.proofs.NameWords.{literal, name-word}

-- what a watch is answered
pub data Answer : Type 0 where
  watching : ℕ → Answer
  no_target : Answer
  watched_by : ℕ → Answer

-- the kinds of lines; an open's answer is what refused it, or none
pub data Said : Type 0 where
  entered : ℕ → Said
  opened : ℕ → List ℕ → ℕ → ℕ → ℕ → Option OpenFault → Said
  sent : ℕ → ℕ → List Frame → ℕ → ℕ → List Dest → Said
  granted : ℕ → ℕ → ℕ → ℕ → ℕ → ℕ → Said
  completed : ℕ → ℕ → Said
  synced : ℕ → ℕ → List ℕ → ℕ → List Dest → Said
  closed : ℕ → ℕ → Said
  finished : ℕ → ℕ → List ℕ → ℕ → ℕ → ℕ → Said
  departed : ℕ → Said
  reset : ℕ → ℕ → Side → SyncFault → Said
  took : ℕ → ℕ → ℕ → List Item → List Dest → Said
  lost : ℕ → ℕ → ℕ → Said
  received : ℕ → ℕ → List ℕ → ℕ → List Dest → Said
  monitored : ℕ → ℕ → List ℕ → Sides → Answer → Said
  counted : ℕ → ℕ → Counts → Said

abbrev open_reply : Option OpenFault → Reply
open_reply None = Opened
open_reply (Some fault) = Refused fault

abbrev answer_reply : Answer → Reply
answer_reply (watching port) = Watching (record { 0 = port })
answer_reply no_target = NoTarget
answer_reply (watched_by port) = Watched (record { 0 = port })

abbrev pub said_entry : ℕ → Said → Entry
said_entry n (entered user) = record { session = (record { 0 = n }); ask = Enter user; reply = Made }
said_entry n (opened s name tx rx extra refusal) = record { session = (record { 0 = s }); ask = Open (record { 0 = s }) name tx rx extra; reply = open_reply refusal }
said_entry n (sent s port frames short lone to) = record { session = (record { 0 = s }); ask = Send (record { 0 = port }) frames; reply = Offered short lone to }
said_entry n (granted s origin to given full gone) = record { session = (record { 0 = s }); ask = Grant origin (record { 0 = to }); reply = Shared given full gone }
said_entry n (completed s lease) = record { session = (record { 0 = s }); ask = Done (record { 0 = lease }); reply = Made }
said_entry n (synced s port back count to) = record { session = (record { 0 = s }); ask = Sync (record { 0 = port }) back; reply = Gave count to }
said_entry n (closed s port) = record { session = (record { 0 = s }); ask = Shut (record { 0 = port }); reply = Made }
said_entry n (finished s port bufs found astray count) = record { session = (record { 0 = s }); ask = Finish (record { 0 = port }) bufs (record { found = found; astray = astray }); reply = Unread count }
said_entry n (departed s) = record { session = (record { 0 = s }); ask = Leave (record { 0 = s }); reply = Made }
said_entry n (reset s port side fault) = record { session = (record { 0 = s }); ask = Reset (record { 0 = port }) side fault; reply = Made }
said_entry n (took s port offered items to) = record { session = (record { 0 = s }); ask = PutKept (record { 0 = port }) offered; reply = Took items to }
said_entry n (lost s port offered) = record { session = (record { 0 = s }); ask = PutKept (record { 0 = port }) offered; reply = PeerGone }
said_entry n (received s port back count to) = record { session = (record { 0 = s }); ask = Get (record { 0 = port }) back; reply = Gave count to }
said_entry n (monitored s monitor name sides answer) = record { session = (record { 0 = s }); ask = Watch (record { 0 = monitor }) name sides; reply = answer_reply answer }
said_entry n (counted s port counts) = record { session = (record { 0 = s }); ask = Stat (record { 0 = port }); reply = Counted counts }

abbrev refusal_words : Option OpenFault → List (List ℕ)
refusal_words None = codes "ok" ∷ []
refusal_words (Some fault) = fault_of_open fault

abbrev answer_words : Answer → List (List ℕ)
answer_words (watching port) = codes "ok" ∷ decimal port ∷ []
answer_words no_target = codes "notarget" ∷ []
answer_words (watched_by port) = codes "watched" ∷ decimal port ∷ []

-- the words behind the entry's number, in a text of version v
abbrev pub words : ℕ → Said → List (List ℕ)
words v (entered user) = codes "enter" ∷ decimal user ∷ []
words v (opened s name tx rx extra refusal) = decimal s ∷ codes "open" ∷ name ∷ decimal tx ∷ decimal rx ∷ decimal extra ∷ codes "=" ∷ refusal_words refusal
words v (sent s port frames short lone to) =
    decimal s ∷ codes "send" ∷ decimal port ∷ frames_text frames ∷ codes "=" ∷ codes "short" ∷ decimal short ∷ codes "lone" ∷ decimal lone ∷ codes "to" ∷ dests_text to ∷ []
words v (granted s origin to given full gone) =
    decimal s ∷ codes "grant" ∷ decimal origin ∷ decimal to ∷ codes "=" ∷ codes "given" ∷ decimal given ∷ codes "full" ∷ decimal full ∷ codes "gone" ∷ decimal gone ∷ []
words v (completed s lease) = decimal s ∷ codes "done" ∷ decimal lease ∷ []
words v (synced s port back count to) = decimal s ∷ codes "sync" ∷ decimal port ∷ buffers_text v back ∷ codes "=" ∷ codes "gave" ∷ decimal count ∷ codes "to" ∷ dests_text to ∷ []
words v (closed s port) = decimal s ∷ codes "shut" ∷ decimal port ∷ []
words v (finished s port bufs found astray count) =
    decimal s ∷ codes "finish" ∷ decimal port ∷ buffers_text v bufs ∷ codes "found" ∷ decimal found ∷ codes "astray" ∷ decimal astray ∷ codes "=" ∷ codes "unread" ∷ decimal count ∷ []
words v (departed s) = decimal s ∷ codes "leave" ∷ []
words v (reset s port side fault) = decimal s ∷ codes "reset" ∷ decimal port ∷ side_word side ∷ fault_words fault
words v (took s port offered items to) = decimal s ∷ codes "put" ∷ decimal port ∷ decimal offered ∷ codes "=" ∷ codes "took" ∷ items_text items ∷ codes "to" ∷ dests_text to ∷ []
words v (lost s port offered) = decimal s ∷ codes "put" ∷ decimal port ∷ decimal offered ∷ codes "=" ∷ codes "peergone" ∷ []
words v (received s port back count to) = decimal s ∷ codes "get" ∷ decimal port ∷ buffers_text v back ∷ codes "=" ∷ codes "gave" ∷ decimal count ∷ codes "to" ∷ dests_text to ∷ []
words v (monitored s monitor name sides answer) = decimal s ∷ codes "watch" ∷ decimal monitor ∷ name ∷ sides_word sides ∷ codes "=" ∷ answer_words answer
words v (counted s port counts) = decimal s ∷ codes "stat" ∷ decimal port ∷ codes "=" ∷ counts_words counts

abbrev IsSaidRefusal : Option OpenFault → Type 0
IsSaidRefusal None = Unit {0}
IsSaidRefusal (Some fault) = IsTrue (is_refusal fault) × RefusalFits u64_widths fault

abbrev IsSaidFault : SyncFault → Type 0
IsSaidFault fault = (is_check_fault fault ≡ true) × FaultFits u64_widths fault

abbrev FitsAnswer : Answer → Type 0
FitsAnswer (watching port) = FitsU64 port
FitsAnswer no_target = Unit {0}
FitsAnswer (watched_by port) = FitsU64 port

-- the numbers fit, the name is a word, and the refusal is one that is printed
abbrev pub IsPlain : Said → Type 0
IsPlain (entered user) = FitsU64 user
IsPlain (opened s name tx rx extra refusal) = FitsU64 s × IsWord name × FitsU64 tx × FitsU64 rx × FitsU64 extra × IsSaidRefusal refusal
IsPlain (sent s port frames short lone to) = FitsU64 s × FitsU64 port × FitsU64 short × FitsU64 lone × Each (DestFits u64_widths) to
IsPlain (granted s origin to given full gone) = FitsU64 s × FitsU64 origin × FitsU64 to × FitsU64 given × FitsU64 full × FitsU64 gone
IsPlain (completed s lease) = FitsU64 s × FitsU64 lease
IsPlain (synced s port back count to) = FitsU64 s × FitsU64 port × Each FitsU64 back × FitsU64 count × Each (DestFits u64_widths) to
IsPlain (closed s port) = FitsU64 s × FitsU64 port
IsPlain (finished s port bufs found astray count) = FitsU64 s × FitsU64 port × Each FitsU64 bufs × FitsU64 found × FitsU64 astray × FitsU64 count
IsPlain (departed s) = FitsU64 s
IsPlain (reset s port side fault) = FitsU64 s × FitsU64 port × IsSaidFault fault
IsPlain (took s port offered items to) = FitsU64 s × FitsU64 port × FitsU64 offered × Each IsPlainItem items × Each (DestFits u64_widths) to
IsPlain (lost s port offered) = FitsU64 s × FitsU64 port × FitsU64 offered
IsPlain (received s port back count to) = FitsU64 s × FitsU64 port × Each FitsU64 back × FitsU64 count × Each (DestFits u64_widths) to
IsPlain (monitored s monitor name sides answer) = FitsU64 s × FitsU64 monitor × IsWord name × FitsAnswer answer
IsPlain (counted s port counts) = FitsU64 s × FitsU64 port × CountsFits u64_widths counts

-- Each line is its words.

abbrev pub entry_words : ℕ → Entry → List (List ℕ)
entry_words v e = ask_words v e.session.0 e.ask ++ reply_words e.reply

-- a word and more words, each behind a blank, up to a line feed
spell-front : (w : List ℕ) (ws : List (List ℕ)) (a : List ℕ) → (w ++ words_text ws ++ 10 ∷ []) ++ a ≡ w ++ ((words_text ws ++ 10 ∷ []) ++ a)
spell-front w ws a = ap (λ (t : List ℕ). t ++ a) (append_assoc w (words_text ws) (10 ∷ [])) ∙ append_assoc w (words_text ws ++ 10 ∷ []) a

spell-is : (w : List ℕ) (ws : List (List ℕ)) (a : List ℕ) → (w ++ words_text ws ++ 10 ∷ []) ++ a ≡ spell w ws a
spell-is w [] a = ap (λ (t : List ℕ). (t ++ 10 ∷ []) ++ a) (append-nil w) ∙ append_assoc w (10 ∷ []) a
spell-is w (v ∷ vs) a =
    ap (λ (t : List ℕ). (t ++ 10 ∷ []) ++ a) (sym (append_assoc w (32 ∷ v) (words_text vs)))
    ∙ spell-front (w ++ 32 ∷ v) vs a
    ∙ append_assoc w (32 ∷ v) ((words_text vs ++ 10 ∷ []) ++ a)
    ∙ ap (λ (t : List ℕ). w ++ 32 ∷ t) (sym (spell-front v vs a) ∙ spell-is v vs a)

pub said-words : (v n : ℕ) (x : Said) → entry_words v (said_entry n x) ≡ words v x
said-words v n (opened s name tx rx extra None) = refl
said-words v n (opened s name tx rx extra (Some fault)) = refl
said-words v n (monitored s monitor name sides (watching port)) = refl
said-words v n (monitored s monitor name sides no_target) = refl
said-words v n (monitored s monitor name sides (watched_by port)) = refl
said-words v n (entered user) = refl
said-words v n (sent s port frames short lone to) = refl
said-words v n (granted s origin to given full gone) = refl
said-words v n (completed s lease) = refl
said-words v n (synced s port back count to) = refl
said-words v n (closed s port) = refl
said-words v n (finished s port bufs found astray count) = refl
said-words v n (departed s) = refl
said-words v n (reset s port side fault) = append-nil (decimal s ∷ codes "reset" ∷ decimal port ∷ side_word side ∷ fault_words fault)
said-words v n (took s port offered items to) = refl
said-words v n (lost s port offered) = refl
said-words v n (received s port back count to) = refl
said-words v n (counted s port counts) = refl

pub line-spelled : (v n : ℕ) (x : Said) (a : List ℕ) → entry_line v n (said_entry n x) ++ a ≡ spell (decimal n) (words v x) a
line-spelled v n x a = ap (λ (ws : List (List ℕ)). (decimal n ++ words_text ws ++ 10 ∷ []) ++ a) (said-words v n x) ∙ spell-is (decimal n) (words v x) a

refusal-are-words : (refusal : Option OpenFault) → Each IsWord (refusal_words refusal)
refusal-are-words None = (literal (codes "ok") refl, tt)
refusal-are-words (Some BadSize) = (literal (codes "badsize") refl, tt)
refusal-are-words (Some SwitchesFull) = (literal (codes "switchesfull") refl, tt)
refusal-are-words (Some PortsFull) = (literal (codes "portsfull") refl, tt)
refusal-are-words (Some NameTaken) = (literal (codes "nametaken") refl, tt)
refusal-are-words (Some (NoBuffers want have)) = (literal (codes "nobuffers") refl, (decimal-word want, (decimal-word have, tt)))
refusal-are-words (Some (RecordFull what used want)) = tt
refusal-are-words (Some NoMemory) = tt

offered-are-words : (short lone : ℕ) (to : List Dest) → Each (DestFits u64_widths) to
    → Each IsWord (codes "short" ∷ decimal short ∷ codes "lone" ∷ decimal lone ∷ codes "to" ∷ dests_text to ∷ [])
offered-are-words short lone to fits =
    (literal (codes "short") refl, (decimal-word short, (literal (codes "lone") refl, (decimal-word lone, (literal (codes "to") refl, (dests-word to fits, tt))))))

shared-are-words : (given full gone : ℕ)
    → Each IsWord (codes "given" ∷ decimal given ∷ codes "full" ∷ decimal full ∷ codes "gone" ∷ decimal gone ∷ [])
shared-are-words given full gone =
    (literal (codes "given") refl, (decimal-word given, (literal (codes "full") refl, (decimal-word full, (literal (codes "gone") refl, (decimal-word gone, tt))))))

gave-are-words : (count : ℕ) (to : List Dest) → Each (DestFits u64_widths) to → Each IsWord (codes "gave" ∷ decimal count ∷ codes "to" ∷ dests_text to ∷ [])
gave-are-words count to fits = (literal (codes "gave") refl, (decimal-word count, (literal (codes "to") refl, (dests-word to fits, tt))))

found-are-words : (found astray count : ℕ)
    → Each IsWord (codes "found" ∷ decimal found ∷ codes "astray" ∷ decimal astray ∷ codes "=" ∷ codes "unread" ∷ decimal count ∷ [])
found-are-words found astray count =
    (literal (codes "found") refl, (decimal-word found, (literal (codes "astray") refl, (decimal-word astray, (literal (codes "=") refl, (literal (codes "unread") refl, (decimal-word count, tt)))))))

side-is-word : (side : Side) → IsWord (side_word side)
side-is-word rings.Tx = literal (codes "tx") refl
side-is-word rings.Rx = literal (codes "rx") refl

sides-is-word : (sides : Sides) → IsWord (sides_word sides)
sides-is-word watched_sides.T = literal (codes "t") refl
sides-is-word watched_sides.R = literal (codes "r") refl
sides-is-word watched_sides.TR = literal (codes "tr") refl

fault-are-words : (fault : SyncFault) → Each IsWord (fault_words fault)
fault-are-words (checks.HeadOut head from to) = (literal (codes "headout") refl, (decimal-word head, (decimal-word from, (decimal-word to, tt))))
fault-are-words (checks.CurOut cur from to) = (literal (codes "curout") refl, (decimal-word cur, (decimal-word from, (decimal-word to, tt))))
fault-are-words (checks.Indirect slot) = (literal (codes "indirect") refl, (decimal-word slot, tt))
fault-are-words (checks.IndexOut slot idx) = (literal (codes "indexout") refl, (decimal-word slot, (decimal-word idx, tt)))
fault-are-words (checks.NotHeld slot idx) = (literal (codes "notheld") refl, (decimal-word slot, (decimal-word idx, tt)))
fault-are-words (checks.Doubled slot idx) = (literal (codes "doubled") refl, (decimal-word slot, (decimal-word idx, tt)))
fault-are-words (checks.Unannounced slot idx was) = (literal (codes "unannounced") refl, (decimal-word slot, (decimal-word idx, (decimal-word was, tt))))
fault-are-words (checks.LongLen slot len) = (literal (codes "longlen") refl, (decimal-word slot, (decimal-word len, tt)))
fault-are-words (checks.Fragment slot) = (literal (codes "fragment") refl, (decimal-word slot, tt))
fault-are-words fault = tt

answer-are-words : (answer : Answer) → Each IsWord (answer_words answer)
answer-are-words (watching port) = (literal (codes "ok") refl, (decimal-word port, tt))
answer-are-words no_target = (literal (codes "notarget") refl, tt)
answer-are-words (watched_by port) = (literal (codes "watched") refl, (decimal-word port, tt))

counts-are-words : (counts : Counts) → Each IsWord (counts_words counts)
counts-are-words counts = (
  literal (codes "sent") refl,
  (
    decimal-word counts.sent,
    (
      literal (codes "short") refl,
      (
        decimal-word counts.short,
        (
          literal (codes "lone") refl,
          (
            decimal-word counts.lone,
            (literal (codes "given") refl, (decimal-word counts.given, (literal (codes "full") refl, (decimal-word counts.full, (literal (codes "read") refl, (decimal-word counts.read, tt)))))),
          ),
        ),
      ),
    ),
  ),
)

pub are-words : (v : ℕ) (x : Said) → IsPlain x → Each IsWord (words v x)
are-words v (entered user) plain = (literal (codes "enter") refl, (decimal-word user, tt))
are-words v (opened s name tx rx extra refusal) plain =
    (decimal-word s, (literal (codes "open") refl, (plain.1, (decimal-word tx, (decimal-word rx, (decimal-word extra, (literal (codes "=") refl, refusal-are-words refusal)))))))
are-words v (sent s port frames short lone to) plain =
    let reply = offered-are-words short lone to plain.4 in
    (decimal-word s, (literal (codes "send") refl, (decimal-word port, (frames-word frames, (literal (codes "=") refl, reply)))))
are-words v (granted s origin to given full gone) plain =
    let reply = shared-are-words given full gone in
    (decimal-word s, (literal (codes "grant") refl, (decimal-word origin, (decimal-word to, (literal (codes "=") refl, reply)))))
are-words v (completed s lease) plain = (decimal-word s, (literal (codes "done") refl, (decimal-word lease, tt)))
are-words v (synced s port back count to) plain =
    let reply = gave-are-words count to plain.4 in
    (decimal-word s, (literal (codes "sync") refl, (decimal-word port, (buffers-word v back, (literal (codes "=") refl, reply)))))
are-words v (closed s port) plain = (decimal-word s, (literal (codes "shut") refl, (decimal-word port, tt)))
are-words v (finished s port bufs found astray count) plain =
    let rest = found-are-words found astray count in
    (decimal-word s, (literal (codes "finish") refl, (decimal-word port, (buffers-word v bufs, rest))))
are-words v (departed s) plain = (decimal-word s, (literal (codes "leave") refl, tt))
are-words v (reset s port side fault) plain =
    let rest = fault-are-words fault in
    (decimal-word s, (literal (codes "reset") refl, (decimal-word port, (side-is-word side, rest))))
are-words v (took s port offered items to) plain =
    (decimal-word s, (literal (codes "put") refl, (decimal-word port, (decimal-word offered, (literal (codes "=") refl, (literal (codes "took") refl, (items-word items plain.3, (literal (codes "to") refl, (dests-word to plain.4, tt)))))))))
are-words v (lost s port offered) plain = (decimal-word s, (literal (codes "put") refl, (decimal-word port, (decimal-word offered, (literal (codes "=") refl, (literal (codes "peergone") refl, tt))))))
are-words v (received s port back count to) plain =
    let reply = gave-are-words count to plain.4 in
    (decimal-word s, (literal (codes "get") refl, (decimal-word port, (buffers-word v back, (literal (codes "=") refl, reply)))))
are-words v (monitored s monitor name sides answer) plain =
    let rest = answer-are-words answer in
    (decimal-word s, (literal (codes "watch") refl, (decimal-word monitor, (plain.2, (sides-is-word sides, (literal (codes "=") refl, rest))))))
are-words v (counted s port counts) plain =
    let rest = counts-are-words counts in
    (decimal-word s, (literal (codes "stat") refl, (decimal-word port, (literal (codes "=") refl, rest))))

-- The words tell what was said.

abbrev word_at : ℕ → List (List ℕ) → List ℕ
word_at n [] = []
word_at zero (w ∷ ws) = w
word_at (suc n) (w ∷ ws) = word_at n ws

word : {ws vs : List (List ℕ)} → ws ≡ vs → (n : ℕ) → word_at n ws ≡ word_at n vs
word e n = ap (word_at n) e

-- the first byte and twice the second, which are another sum for each verb and for each answer
abbrev mark_of : List ℕ → ℕ
mark_of [] = 0
mark_of (a ∷ []) = a
mark_of (a ∷ b ∷ w) = a + 2 * b

-- twice the first byte and the fourth, which are another sum for each fault
abbrev fault_mark : List ℕ → ℕ
fault_mark (a ∷ b ∷ c ∷ d ∷ w) = 2 * a + d
fault_mark w = 0

abbrev mark_at : ℕ → List (List ℕ) → ℕ
mark_at n ws = mark_of (word_at n ws)

refusal-same : (r q : Option OpenFault) → IsSaidRefusal r → IsSaidRefusal q → refusal_words r ≡ refusal_words q → r ≡ q
refusal-same None None pr pq e = refl
refusal-same (Some (RecordFull what used want)) q pr pq e = let no : false ≡ true = pr.0 in absurd cc
refusal-same (Some NoMemory) q pr pq e = let no : false ≡ true = pr.0 in absurd cc
refusal-same r (Some (RecordFull what used want)) pr pq e = let no : false ≡ true = pq.0 in absurd cc
refusal-same r (Some NoMemory) pr pq e = let no : false ≡ true = pq.0 in absurd cc
refusal-same (Some BadSize) (Some BadSize) pr pq e = refl
refusal-same (Some SwitchesFull) (Some SwitchesFull) pr pq e = refl
refusal-same (Some PortsFull) (Some PortsFull) pr pq e = refl
refusal-same (Some NameTaken) (Some NameTaken) pr pq e = refl
refusal-same (Some (NoBuffers want have)) (Some (NoBuffers other there)) pr pq e =
    let first : want ≡ other = equal want other pr.1.0 pq.1.0 (word e 1) in
    let second : have ≡ there = equal have there pr.1.1 pq.1.1 (word e 2) in
    ap (λ (n : ℕ). Some (NoBuffers n have)) first ∙ ap (λ (n : ℕ). Some (NoBuffers other n)) second
refusal-same r q pr pq e = absurd (omega (arith, ap (mark_at 0) e))

fault-same : (f g : SyncFault) → IsSaidFault f → IsSaidFault g → fault_words f ≡ fault_words g → f ≡ g
fault-same (checks.HeadOut a b c) (checks.HeadOut x y z) pf pg e =
    rw (equal a x pf.1.0 pg.1.0 (word e 1), equal b y pf.1.1 pg.1.1 (word e 2))
    (rw (equal c z pf.1.2 pg.1.2 (word e 3)) refl)
fault-same (checks.CurOut a b c) (checks.CurOut x y z) pf pg e =
    rw (equal a x pf.1.0 pg.1.0 (word e 1), equal b y pf.1.1 pg.1.1 (word e 2))
    (rw (equal c z pf.1.2 pg.1.2 (word e 3)) refl)
fault-same (checks.Indirect a) (checks.Indirect x) pf pg e = ap checks.Indirect (equal a x pf.1 pg.1 (word e 1))
fault-same (checks.IndexOut a b) (checks.IndexOut x y) pf pg e =
    rw (equal a x pf.1.0 pg.1.0 (word e 1), equal b y pf.1.1 pg.1.1 (word e 2)) refl
fault-same (checks.NotHeld a b) (checks.NotHeld x y) pf pg e =
    rw (equal a x pf.1.0 pg.1.0 (word e 1), equal b y pf.1.1 pg.1.1 (word e 2)) refl
fault-same (checks.Doubled a b) (checks.Doubled x y) pf pg e =
    rw (equal a x pf.1.0 pg.1.0 (word e 1), equal b y pf.1.1 pg.1.1 (word e 2)) refl
fault-same (checks.Unannounced a b c) (checks.Unannounced x y z) pf pg e =
    rw (equal a x pf.1.0 pg.1.0 (word e 1), equal b y pf.1.1 pg.1.1 (word e 2))
    (rw (equal c z pf.1.2 pg.1.2 (word e 3)) refl)
fault-same (checks.LongLen a b) (checks.LongLen x y) pf pg e =
    rw (equal a x pf.1.0 pg.1.0 (word e 1), equal b y pf.1.1 pg.1.1 (word e 2)) refl
fault-same (checks.Fragment a) (checks.Fragment x) pf pg e = ap checks.Fragment (equal a x pf.1 pg.1 (word e 1))
fault-same checks.PeerGone g pf pg e = let no : false ≡ true = pf.0 in absurd cc
fault-same (checks.RecordFull what used want) g pf pg e = let no : false ≡ true = pf.0 in absurd cc
fault-same checks.NoMemory g pf pg e = let no : false ≡ true = pf.0 in absurd cc
fault-same f checks.PeerGone pf pg e = let no : false ≡ true = pg.0 in absurd cc
fault-same f (checks.RecordFull what used want) pf pg e = let no : false ≡ true = pg.0 in absurd cc
fault-same f checks.NoMemory pf pg e = let no : false ≡ true = pg.0 in absurd cc
fault-same f g pf pg e = let same : fault_mark (word_at 0 (fault_words f)) ≡ fault_mark (word_at 0 (fault_words g)) = ap (λ (ws : List (List ℕ)). fault_mark (word_at 0 ws)) e in absurd (omega (arith, same))

side-same : (a b : Side) → side_word a ≡ side_word b → a ≡ b
side-same rings.Tx rings.Tx e = refl
side-same rings.Rx rings.Rx e = refl
side-same a b e = absurd (omega (arith, ap mark_of e))

sides-same : (a b : Sides) → sides_word a ≡ sides_word b → a ≡ b
sides-same watched_sides.T watched_sides.T e = refl
sides-same watched_sides.R watched_sides.R e = refl
sides-same watched_sides.TR watched_sides.TR e = refl
sides-same a b e = absurd (omega (arith, ap mark_of e))

answer-same : (a b : Answer) → FitsAnswer a → FitsAnswer b → answer_words a ≡ answer_words b → a ≡ b
answer-same (watching p) (watching q) pa pb e = ap watching (equal p q pa pb (word e 1))
answer-same no_target no_target pa pb e = refl
answer-same (watched_by p) (watched_by q) pa pb e = ap watched_by (equal p q pa pb (word e 1))
answer-same a b pa pb e = absurd (omega (arith, ap (mark_at 0) e))

counts-same : (a b : Counts) → CountsFits u64_widths a → CountsFits u64_widths b → counts_words a ≡ counts_words b → a ≡ b
counts-same a b pa pb e =
    let e0 = equal a.sent b.sent pa.0 pb.0 (word e 1) in
    let e1 = equal a.short b.short pa.1 pb.1 (word e 3) in
    let e2 = equal a.lone b.lone pa.2 pb.2 (word e 5) in
    let e3 = equal a.given b.given pa.3 pb.3 (word e 7) in
    let e4 = equal a.full b.full pa.4 pb.4 (word e 9) in
    let e5 = equal a.read b.read pa.5 pb.5 (word e 11) in
    ap (λ (n : ℕ). record a { sent = n }) e0
    ∙ ap (λ (n : ℕ). record a { sent = b.sent; short = n }) e1
    ∙ ap (λ (n : ℕ). record a { sent = b.sent; short = b.short; lone = n }) e2
    ∙ ap (λ (n : ℕ). record b { given = n; full = a.full; read = a.read }) e3
    ∙ ap (λ (n : ℕ). record b { full = n; read = a.read }) e4
    ∙ ap (λ (n : ℕ). record b { read = n }) e5

abbrev said_session : Said → ℕ
said_session (entered user) = 0
said_session (opened s name tx rx extra refusal) = s
said_session (sent s port frames short lone to) = s
said_session (granted s origin to given full gone) = s
said_session (completed s lease) = s
said_session (synced s port back count to) = s
said_session (closed s port) = s
said_session (finished s port bufs found astray count) = s
said_session (departed s) = s
said_session (reset s port side fault) = s
said_session (took s port offered items to) = s
said_session (lost s port offered) = s
said_session (received s port back count to) = s
said_session (monitored s monitor name sides answer) = s
said_session (counted s port counts) = s

pub words-same : (v : ℕ) (x y : Said) → IsPlain x → IsPlain y → words v x ≡ words v y → x ≡ y
words-same v (entered u) (entered w) px py e = let same = equal u w px py (word e 1) in ap entered same
words-same v (entered u) y px py e = absurd (not-number (decimal (said_session y)) 101 (drop 1 (codes "enter")) (decimal-digits (said_session y)) (omega arith) (sym (word e 0)))
words-same v x (entered w) px py e = absurd (not-number (decimal (said_session x)) 101 (drop 1 (codes "enter")) (decimal-digits (said_session x)) (omega arith) (word e 0))
words-same v (opened s name tx rx extra r) (opened t other ux sx more q) px py e =
    rw (equal s t px.0 py.0 (word e 0), word e 2, equal tx ux px.2 py.2 (word e 3))
    (rw (equal rx sx px.3 py.3 (word e 4), equal extra more px.4 py.4 (word e 5))
    (rw (refusal-same r q px.5 py.5 (ap (drop 7) e)) refl))
words-same v (sent s port frames short lone to) (sent t gate others few single dests) px py e =
    rw (equal s t px.0 py.0 (word e 0), equal port gate px.1 py.1 (word e 2))
    (rw (frames-same frames others (word e 3), equal short few px.2 py.2 (word e 6))
    (rw (equal lone single px.3 py.3 (word e 8), dests-same to dests px.4 py.4 (word e 10)) refl))
words-same v (granted s origin to given full gone) (granted t source at some over left) px py e =
    rw (equal s t px.0 py.0 (word e 0), equal origin source px.1 py.1 (word e 2))
    (rw (equal to at px.2 py.2 (word e 3), equal given some px.3 py.3 (word e 6))
    (rw (equal full over px.4 py.4 (word e 8), equal gone left px.5 py.5 (word e 10)) refl))
words-same v (completed s lease) (completed t other) px py e =
    rw (equal s t px.0 py.0 (word e 0), equal lease other px.1 py.1 (word e 2)) refl
words-same v (synced s port back count to) (synced t gate others few dests) px py e =
    rw (equal s t px.0 py.0 (word e 0), equal port gate px.1 py.1 (word e 2))
    (rw (buffers-same v back others px.2 py.2 (word e 3))
    (rw (equal count few px.3 py.3 (word e 6), dests-same to dests px.4 py.4 (word e 8)) refl))
words-same v (closed s port) (closed t gate) px py e =
    rw (equal s t px.0 py.0 (word e 0), equal port gate px.1 py.1 (word e 2)) refl
words-same v (finished s port bufs found astray count) (finished t gate others seen missed few) px py e =
    rw (equal s t px.0 py.0 (word e 0), equal port gate px.1 py.1 (word e 2))
    (rw (buffers-same v bufs others px.2 py.2 (word e 3))
    (rw (equal found seen px.3 py.3 (word e 5), equal astray missed px.4 py.4 (word e 7))
    (rw (equal count few px.5 py.5 (word e 10)) refl)))
words-same v (departed s) (departed t) px py e = ap departed (equal s t px py (word e 0))
words-same v (reset s port side fault) (reset t gate ring other) px py e =
    rw (equal s t px.0 py.0 (word e 0), equal port gate px.1 py.1 (word e 2))
    (rw (side-same side ring (word e 3), fault-same fault other px.2 py.2 (ap (drop 4) e)) refl)
words-same v (took s port offered items to) (took t gate count others dests) px py e =
    rw (equal s t px.0 py.0 (word e 0), equal port gate px.1 py.1 (word e 2))
    (rw (equal offered count px.2 py.2 (word e 3))
    (rw (items-same items others px.3 py.3 (word e 6))
    (rw (dests-same to dests px.4 py.4 (word e 8)) refl)))
words-same v (took s port offered items to) (lost t gate count) px py e = absurd (omega (arith, ap (mark_at 5) e))
words-same v (lost s port offered) (took t gate count others dests) px py e = absurd (omega (arith, ap (mark_at 5) e))
words-same v (lost s port offered) (lost t gate count) px py e =
    rw (equal s t px.0 py.0 (word e 0), equal port gate px.1 py.1 (word e 2))
    (rw (equal offered count px.2 py.2 (word e 3)) refl)
words-same v (received s port back count to) (received t gate others few dests) px py e =
    rw (equal s t px.0 py.0 (word e 0), equal port gate px.1 py.1 (word e 2))
    (rw (buffers-same v back others px.2 py.2 (word e 3))
    (rw (equal count few px.3 py.3 (word e 6), dests-same to dests px.4 py.4 (word e 8)) refl))
words-same v (monitored s monitor name sides answer) (monitored t other target more reply) px py e =
    rw (equal s t px.0 py.0 (word e 0), equal monitor other px.1 py.1 (word e 2), word e 3)
    (rw (sides-same sides more (word e 4))
    (rw (answer-same answer reply px.3 py.3 (ap (drop 6) e)) refl))
words-same v (counted s port counts) (counted t gate others) px py e =
    rw (equal s t px.0 py.0 (word e 0), equal port gate px.1 py.1 (word e 2))
    (rw (counts-same counts others px.2 py.2 (ap (drop 4) e)) refl)
words-same v x y px py e = absurd (omega (arith, ap (mark_at 1) e))

-- What a printable entry says.

pub record Says (n : ℕ) (e : Entry) : Type 0 where
  pub said : Said
  pub is : e ≡ said_entry n said
  pub plain : IsPlain said

no-truth : {X : Type 0} → false ≡ true → X
no-truth e = absurd cc

said-by : (n : ℕ) (session : SessionId) (ask : Ask) (reply : Reply) → IsTrue (is_printable n session.0 ask reply) → FitsU64 session.0 → AskFits u64_widths ask → ReplyFits u64_widths reply
    → Says n (record { session = session; ask = ask; reply = reply })
said-by n session (Enter user) Made h fs fa fr =
    let number : session.0 ≡ n = eqb-true session.0 n h in
    record { said = entered user; is = ap (λ (k : ℕ). record { session = (record { 0 = k }); ask = Enter user; reply = Made }) number; plain = fa }
said-by n session (Open asked name tx rx extra) Opened h fs fa fr =
    let parts = and_parts (session.0 == asked.0) (is_name name) h in
    let one : asked.0 ≡ session.0 = sym (eqb-true session.0 asked.0 parts.0) in
    record {
      said = opened session.0 name tx rx extra None;
      is = ap (λ (k : ℕ). record { session = session; ask = Open (record { 0 = k }) name tx rx extra; reply = Opened }) one;
      plain = (fs, name-word name parts.1, fa.0, fa.1, fa.2, tt);
    }
said-by n session (Open asked name tx rx extra) (Refused fault) h fs fa fr =
    let parts = and_parts (session.0 == asked.0) (is_name name && is_refusal fault) h in
    let more = and_parts (is_name name) (is_refusal fault) parts.1 in
    let one : asked.0 ≡ session.0 = sym (eqb-true session.0 asked.0 parts.0) in
    record {
      said = opened session.0 name tx rx extra (Some fault);
      is = ap (λ (k : ℕ). record { session = session; ask = Open (record { 0 = k }) name tx rx extra; reply = Refused fault }) one;
      plain = (fs, name-word name more.0, fa.0, fa.1, fa.2, (more.1, fr));
    }
said-by n session (Send port frames) (Offered short lone to) h fs fa fr =
    record { said = sent session.0 port.0 frames short lone to; is = refl; plain = (fs, fa, fr.0, fr.1, fr.2) }
said-by n session (Grant origin to) (Shared given full gone) h fs fa fr =
    record { said = granted session.0 origin to.0 given full gone; is = refl; plain = (fs, fa.0, fa.1, fr.0, fr.1, fr.2) }
said-by n session (Done lease) Made h fs fa fr = record { said = completed session.0 lease.0; is = refl; plain = (fs, fa) }
said-by n session (Sync port back) (Gave count to) h fs fa fr =
    record { said = synced session.0 port.0 back count to; is = refl; plain = (fs, fa.0, fa.1, fr.0, fr.1) }
said-by n session (Shut port) Made h fs fa fr = record { said = closed session.0 port.0; is = refl; plain = (fs, fa) }
said-by n session (Finish port bufs chain) (Unread count) h fs fa fr =
    record { said = finished session.0 port.0 bufs chain.found chain.astray count; is = refl; plain = (fs, fa.0, fa.1, fa.2, fa.3, fr) }
said-by n session (Leave asked) Made h fs fa fr =
    let one : asked.0 ≡ session.0 = sym (eqb-true session.0 asked.0 h) in
    record { said = departed session.0; is = ap (λ (k : ℕ). record { session = session; ask = Leave (record { 0 = k }); reply = Made }) one; plain = fs }
said-by n session (Reset port side fault) Made h fs fa fr = record { said = reset session.0 port.0 side fault; is = refl; plain = (fs, fa.0, (h, fa.1)) }
said-by n session (PutKept port offered) (Took items to) h fs fa fr =
    let parts = and_parts (list_all is_unmarked items) (dests_rise to) h in
    record { said = took session.0 port.0 offered items to; is = refl; plain = (fs, fa.0, fa.1, plain-items items fr.0 parts.0, fr.1) }
said-by n session (PutKept port offered) PeerGone h fs fa fr = record { said = lost session.0 port.0 offered; is = refl; plain = (fs, fa.0, fa.1) }
said-by n session (Get port back) (Gave count to) h fs fa fr =
    record { said = received session.0 port.0 back count to; is = refl; plain = (fs, fa.0, fa.1, fr.0, fr.1) }
said-by n session (Watch monitor target sides) (Watching port) h fs fa fr = record { said = monitored session.0 monitor.0 target sides (watching port.0); is = refl; plain = (fs, fa, name-word target h, fr) }
said-by n session (Watch monitor target sides) NoTarget h fs fa fr = record { said = monitored session.0 monitor.0 target sides no_target; is = refl; plain = (fs, fa, name-word target h, tt) }
said-by n session (Watch monitor target sides) (Watched by) h fs fa fr = record { said = monitored session.0 monitor.0 target sides (watched_by by.0); is = refl; plain = (fs, fa, name-word target h, fr) }
said-by n session (Stat port) (Counted counts) h fs fa fr = record { said = counted session.0 port.0 counts; is = refl; plain = (fs, fa, fr) }
said-by n session ask reply h fs fa fr = no-truth h

pub says : (n : ℕ) (e : Entry) → IsPrintable n e → FitsEntry e → Says n e
says n e h fits = said-by n e.session e.ask e.reply h fits.0 fits.1 fits.2
