-- An entry's words are read as the entry, and what is read fits its fields.
use Rattle.std.specs.List.{AllByRecursion as Each, list_all}
use Rattle.std.proofs.Common.{ℕ, ◌<◌, ◌≡◌, ◌==◌, ◌&&◌, Bool, true, false, if◌then◌else◌, List, [], ◌∷◌, codes, bytes_eq, decimal, Some, None, option_map, refl, sym, ◌∙◌, ap, arith}
use Rattle.std.proofs.lemmas.Bool.{and_parts, eqb-true, false_from_ne_true}
use Rattle.std.proofs.lemmas.Slice.Eq.{bytes_eq-Decides}
use Rattle.nm_types.specs.Names.{is_name}
use Rattle.nm_types.specs.declared.fault.OpenFault.TheVariants.{BadSize, SwitchesFull, PortsFull, NameTaken, NoBuffers, RecordFull, NoMemory}
use Rattle.nm_types.specs.declared.fault.OpenFault.{OpenFault}
use Rattle.nm_types.specs.declared.fault.SyncFault.{SyncFault}
use Rattle.nm_types.specs.declared.fault.SyncFault.TheVariants as checks
use Rattle.nm_types.specs.declared.id.SessionId.{SessionId}
use Rattle.nm_types.specs.declared.id.PortId.{PortId}
use Rattle.nm_types.specs.declared.id.Counts.{Counts}
use Rattle.nm_types.specs.declared.id.Side.{Side}
use Rattle.nm_types.specs.declared.id.Side.TheVariants as rings
use Rattle.nm_types.specs.declared.id.Sides.{Sides}
use Rattle.nm_types.specs.declared.id.Sides.TheVariants as watched
use Rattle.vale_entry.specs.declared.entry.Item.{Item}
use Rattle.vale_entry.specs.declared.entry.Ask.{Ask}
use Rattle.vale_entry.specs.declared.entry.Ask.TheVariants.{Enter, Open, Send, Grant, Done, Sync, Reset, Shut, Finish, Leave, PutKept, Get, Watch, Stat}
use Rattle.vale_entry.specs.declared.entry.Reply.{Reply}
use Rattle.vale_entry.specs.declared.entry.Reply.TheVariants.{Made, Opened, Refused, Offered, Shared, Gave, Took, PeerGone, Unread, Watching, NoTarget, Watched, Counted}
use Rattle.vale_entry.specs.declared.entry.Entry.{Entry}
use Rattle.vale_entry.specs.Transcript.{is_unmarked, is_refusal, dests_rise, is_printable, side_word, sides_word}
use Rattle.vale_fields.specs.Fields.{long_of, short_of, name_of}
use Rattle.vale_words.specs.Fixed.{side_of, sides_of, word_at}
use Rattle.vale_fields.specs.Rows.{entry_of, row_of, open_answer, open_with, fault_by, watch_answer, watch_with}
use Rattle.vale_fields.specs.Laws.{words_with, WordsAreRead}
use Rattle.vale_entry.specs.Fits.{ReplyFits, CountsFits, AskFits}
use Rattle.vale_fields.specs.Widths.{Is32, Is64, field_widths}
use Rattle.vale_fields.proofs.Back.{buffers-back, dests-back, items-back, frames-back}
use Rattle.vale_fields.proofs.Numerals.{long-back, short-back, half-back}
use Rattle.vale_fields.proofs.Texts.{decimal-digits, not-number}

-- a number is no verb
no-verb : (n x : ℕ) (verb : List ℕ) → 58 < x → bytes_eq (decimal n) (x ∷ verb) ≡ false
no-verb n x verb big = false_from_ne_true (bytes_eq (decimal n) (x ∷ verb)) (λ e. not-number (decimal n) x verb (decimal-digits n) big ((bytes_eq-Decides (decimal n) (x ∷ verb)).0 e))

side-back : (side : Side) → side_of (side_word side) ≡ side
side-back rings.Tx = refl
side-back rings.Rx = refl

sides-back : (sides : Sides) → sides_of (sides_word sides) ≡ sides
sides-back watched.T = refl
sides-back watched.R = refl
sides-back watched.TR = refl

name-back : (name : List ℕ) → is_name name ≡ true → name_of name ≡ Some name
unfolding name_of
name-back name is = ap (λ (b : Bool). if b then Some name else None) is

unmarked-each : (items : List Item) → list_all is_unmarked items ≡ true → Each (λ item. is_unmarked item ≡ true) items
unmarked-each [] h = tt
unmarked-each (x ∷ xs) h =
    let parts = and_parts (is_unmarked x) (list_all is_unmarked xs) h in
    (parts.0, unmarked-each xs parts.1)

no-truth : {X : Type 0} → false ≡ true → X
no-truth e = absurd cc

abbrev entry_with : SessionId → Ask → Reply → Entry
entry_with session ask reply = record { session = session; ask = ask; reply = reply }

abbrev words_of : ℕ → List ℕ → SessionId → Ask → Reply → List (List ℕ)
words_of v first session ask reply = words_with v first (entry_with session ask reply)

abbrev IsRead : ℕ → ℕ → List ℕ → SessionId → Ask → Reply → Type 0
IsRead v n first session ask reply =
    entry_of n (words_of v first session ask reply) ≡ Some (entry_with session ask reply)

enter-back : (v n : ℕ) (first : List ℕ) (session : SessionId) (user : ℕ) → session.0 ≡ n → Is64 user → IsRead v n first session (Enter user) Made
unfolding entry_of
enter-back v n first session user same fits =
    let back = long-back user fits in
    let verbs : row_of n (decimal user) (first ∷ codes "enter" ∷ decimal user ∷ []) ≡ Some (record { session = (record { 0 = n }); ask = Enter (long_of (decimal user)); reply = Made }) =
    rw (no-verb user 111 (codes "pen") (omega arith), no-verb user 115 (codes "end") (omega arith), no-verb user 103 (codes "rant") (omega arith), no-verb user 100 (codes "one") (omega arith), no-verb user 115 (codes "ync") (omega arith), no-verb user 103 (codes "et") (omega arith), no-verb user 114 (codes "eset") (omega arith), no-verb user 115 (codes "hut") (omega arith), no-verb user 102 (codes "inish") (omega arith), no-verb user 108 (codes "eave") (omega arith), no-verb user 112 (codes "ut") (omega arith), no-verb user 119 (codes "atch") (omega arith), no-verb user 115 (codes "tat") (omega arith)) refl in
    verbs ∙ ap (λ (k : ℕ). Some (record { session = (record { 0 = n }); ask = Enter k; reply = Made })) back
    ∙ ap (λ (k : ℕ). Some (record { session = (record { 0 = k }); ask = Enter user; reply = Made })) (sym same)

port-back : (port : PortId) → Is32 port.0 → record { 0 = short_of (decimal port.0) } ≡ port
port-back port fits = ap (λ (n : ℕ). record port { 0 = n }) (short-back port.0 fits)

session-back : (n : ℕ) (session : SessionId) → n ≡ session.0 → record { 0 = n } ≡ session
session-back n session e = ap (λ (k : ℕ). record session { 0 = k }) e

session-read : (session : SessionId) → Is32 session.0
    → record { 0 = short_of (decimal session.0) } ≡ session
session-read session fits =
    session-back (short_of (decimal session.0)) session (short-back session.0 fits)

counts-back : (counts : Counts) → CountsFits field_widths counts
    → record { sent = long_of (decimal counts.sent); short = long_of (decimal counts.short); lone = long_of (decimal counts.lone); given = long_of (decimal counts.given); full = long_of (decimal counts.full); read = long_of (decimal counts.read) } ≡ counts
counts-back counts fits =
    let e0 = long-back counts.sent fits.0 in
    let e1 = long-back counts.short fits.1 in
    let e2 = long-back counts.lone fits.2 in
    let e3 = long-back counts.given fits.3 in
    let e4 = long-back counts.full fits.4 in
    let e5 = long-back counts.read fits.5 in
    rw (e0, e1, e2, e3, e4, e5) refl

entry-same : {s t : SessionId} {a b : Ask} {p q : Reply} → s ≡ t → a ≡ b → p ≡ q → Some (entry_with s a p) ≡ Some (entry_with t b q)
entry-same e0 e1 e2 = cc

-- an opening is read, with the answer of which its last words tell
abbrev IsOpenRead : ℕ → List (List ℕ) → SessionId → Ask → Type 0
IsOpenRead n words session ask =
    entry_of n words ≡ Some (entry_with session ask (open_answer (word_at 8 words) words))

open-back : (v n : ℕ) (first : List ℕ) (session who : SessionId) (name : List ℕ) (tx rx extra : ℕ)
    (reply : Reply) → session.0 ≡ who.0 → is_name name ≡ true → Is32 session.0
    → AskFits field_widths (Open who name tx rx extra)
    → IsOpenRead n (words_of v first session (Open who name tx rx extra) reply) session
    (Open who name tx rx extra)
unfolding entry_of
open-back v n first session who name tx rx extra reply one is fs fa =
    let s = session-read session fs in
    let same = session-back (short_of (decimal session.0)) who (short-back session.0 fs ∙ one) in
    let e0 = short-back tx fa.0 in
    let e1 = short-back rx fa.1 in
    let e2 = short-back extra fa.2 in
    let asked : Open (record { 0 = short_of (decimal session.0) }) name (short_of (decimal tx))
    (short_of (decimal rx)) (short_of (decimal extra)) ≡ Open who name tx rx extra = cc in
    let words = words_of v first session (Open who name tx rx extra) reply in
    ap (option_map (open_with words)) (name-back name is) ∙ entry-same s asked refl

refused-back : (v n : ℕ) (first : List ℕ) (session who : SessionId) (name : List ℕ) (tx rx extra : ℕ)
    (fault : OpenFault)
    → is_printable n session.0 (Open who name tx rx extra) (Refused fault) ≡ true → Is32 session.0
    → AskFits field_widths (Open who name tx rx extra)
    → IsOpenRead n (words_of v first session (Open who name tx rx extra) (Refused fault)) session
    (Open who name tx rx extra)
refused-back v n first session who name tx rx extra fault h fs fa =
    let parts = and_parts (session.0 == who.0) (is_name name && is_refusal fault) h in
    open-back v n first session who name tx rx extra (Refused fault)
    (eqb-true session.0 who.0 parts.0) (and_parts (is_name name) (is_refusal fault) parts.1).0 fs fa

-- a reset is read, once its fault is
reset-back : (v n : ℕ) (first : List ℕ) (session : SessionId) (port : PortId) (side : Side)
    (fault : SyncFault) → Is32 session.0 → Is32 port.0
    → fault_by (word_at 5 (words_of v first session (Reset port side fault) Made))
    (words_of v first session (Reset port side fault) Made) ≡ fault
    → IsRead v n first session (Reset port side fault) Made
unfolding entry_of
reset-back v n first session port side fault fs fp same =
    let e0 = port-back port fp in
    let e1 = side-back side in
    let words = words_of v first session (Reset port side fault) Made in
    let asked : Reset (record { 0 = short_of (decimal port.0) }) (side_of (side_word side))
    (fault_by (word_at 5 words) words) ≡ Reset port side fault = cc in
    entry-same (session-read session fs) asked refl

-- a watch is read, with the answer of which its last words tell
watch-back : (v n : ℕ) (first : List ℕ) (session : SessionId) (monitor : PortId) (target : List ℕ)
    (sides : Sides) (reply : Reply) → is_name target ≡ true → Is32 session.0 → Is32 monitor.0
    → watch_answer (word_at 7 (words_of v first session (Watch monitor target sides) reply))
    (words_of v first session (Watch monitor target sides) reply) ≡ reply
    → IsRead v n first session (Watch monitor target sides) reply
unfolding entry_of
watch-back v n first session monitor target sides reply is fs fm same =
    let e0 = port-back monitor fm in
    let e1 = sides-back sides in
    let asked : Watch (record { 0 = short_of (decimal monitor.0) }) target
    (sides_of (sides_word sides)) ≡ Watch monitor target sides = cc in
    let words = words_of v first session (Watch monitor target sides) reply in
    ap (option_map (watch_with words)) (name-back target is)
    ∙ entry-same (session-read session fs) asked same

pub read-back : (v n : ℕ) (first : List ℕ) (session : SessionId) (ask : Ask) (reply : Reply)
    → is_printable n session.0 ask reply ≡ true → Is32 session.0 → AskFits field_widths ask → ReplyFits field_widths reply
    → IsRead v n first session ask reply
unfolding entry_of
read-back v n first session (Enter user) Made h fs fa fr =
    enter-back v n first session user (eqb-true session.0 n h) fa
read-back v n first session (Open who name tx rx extra) Opened h fs fa fr =
    let parts = and_parts (session.0 == who.0) (is_name name) h in
    open-back v n first session who name tx rx extra Opened (eqb-true session.0 who.0 parts.0) parts.1
    fs fa
read-back v n first session (Open who name tx rx extra) (Refused BadSize) h fs fa fr =
    refused-back v n first session who name tx rx extra BadSize h fs fa
read-back v n first session (Open who name tx rx extra) (Refused SwitchesFull) h fs fa fr =
    refused-back v n first session who name tx rx extra SwitchesFull h fs fa
read-back v n first session (Open who name tx rx extra) (Refused PortsFull) h fs fa fr =
    refused-back v n first session who name tx rx extra PortsFull h fs fa
read-back v n first session (Open who name tx rx extra) (Refused NameTaken) h fs fa fr =
    refused-back v n first session who name tx rx extra NameTaken h fs fa
read-back v n first session (Open who name tx rx extra) (Refused (NoBuffers want have)) h fs fa fr =
    let answered : Refused (NoBuffers (short_of (decimal want)) (short_of (decimal have)))
    ≡ Refused (NoBuffers want have) = rw (short-back want fr.0, short-back have fr.1) refl in
    refused-back v n first session who name tx rx extra (NoBuffers want have) h fs fa
    ∙ entry-same refl refl answered
read-back v n first session (Open who name tx rx extra) (Refused (RecordFull what used want)) h fs fa fr =
    no-truth (and_parts (is_name name) false (and_parts (session.0 == who.0) (is_name name && false) h).1).1
read-back v n first session (Open who name tx rx extra) (Refused NoMemory) h fs fa fr =
    no-truth (and_parts (is_name name) false (and_parts (session.0 == who.0) (is_name name && false) h).1).1
read-back v n first session (Send port frames) (Offered short lone to) h fs fa fr =
    rw (short-back session.0 fs, short-back port.0 fa.0, frames-back frames fa.1)
    (rw (short-back short fr.0, short-back lone fr.1, dests-back to fr.2) refl)
read-back v n first session (Grant origin to) (Shared given full gone) h fs fa fr =
    rw (short-back session.0 fs, short-back origin fa.0, short-back to.0 fa.1)
    (rw (short-back given fr.0, short-back full fr.1, short-back gone fr.2) refl)
read-back v n first session (Done lease) Made h fs fa fr =
    rw (short-back session.0 fs, short-back lease.0 fa) refl
read-back v n first session (Sync port back) (Gave count to) h fs fa fr =
    rw (short-back session.0 fs, short-back port.0 fa.0, buffers-back v back fa.1)
    (rw (short-back count fr.0, dests-back to fr.1) refl)
read-back v n first session (Shut port) Made h fs fa fr =
    rw (short-back session.0 fs, short-back port.0 fa) refl
read-back v n first session (Finish port bufs chain) (Unread count) h fs fa fr =
    rw (short-back session.0 fs, short-back port.0 fa.0, buffers-back v bufs fa.1)
    (rw (short-back chain.found fa.2, short-back chain.astray fa.3, short-back count fr) refl)
read-back v n first session (Leave who) Made h fs fa fr =
    entry-same (session-read session fs) (ap Leave (session-back (short_of (decimal session.0)) who
    (short-back session.0 fs ∙ eqb-true session.0 who.0 h))) refl
read-back v n first session (Reset port side (checks.HeadOut head from to)) Made h fs fa fr =
    reset-back v n first session port side (checks.HeadOut head from to) fs fa.0
    (rw (short-back head fa.1.0, short-back from fa.1.1, short-back to fa.1.2) refl)
read-back v n first session (Reset port side (checks.CurOut cur from to)) Made h fs fa fr =
    reset-back v n first session port side (checks.CurOut cur from to) fs fa.0
    (rw (short-back cur fa.1.0, short-back from fa.1.1, short-back to fa.1.2) refl)
read-back v n first session (Reset port side (checks.Indirect slot)) Made h fs fa fr =
    reset-back v n first session port side (checks.Indirect slot) fs fa.0
    (rw (short-back slot fa.1) refl)
read-back v n first session (Reset port side (checks.IndexOut slot idx)) Made h fs fa fr =
    reset-back v n first session port side (checks.IndexOut slot idx) fs fa.0
    (rw (short-back slot fa.1.0, short-back idx fa.1.1) refl)
read-back v n first session (Reset port side (checks.NotHeld slot idx)) Made h fs fa fr =
    reset-back v n first session port side (checks.NotHeld slot idx) fs fa.0
    (rw (short-back slot fa.1.0, short-back idx fa.1.1) refl)
read-back v n first session (Reset port side (checks.Doubled slot idx)) Made h fs fa fr =
    reset-back v n first session port side (checks.Doubled slot idx) fs fa.0
    (rw (short-back slot fa.1.0, short-back idx fa.1.1) refl)
read-back v n first session (Reset port side (checks.Unannounced slot idx was)) Made h fs fa fr =
    reset-back v n first session port side (checks.Unannounced slot idx was) fs fa.0
    (rw (short-back slot fa.1.0, short-back idx fa.1.1, short-back was fa.1.2) refl)
read-back v n first session (Reset port side (checks.LongLen slot len)) Made h fs fa fr =
    reset-back v n first session port side (checks.LongLen slot len) fs fa.0
    (rw (short-back slot fa.1.0, half-back len fa.1.1) refl)
read-back v n first session (Reset port side (checks.Fragment slot)) Made h fs fa fr =
    reset-back v n first session port side (checks.Fragment slot) fs fa.0
    (rw (short-back slot fa.1) refl)
read-back v n first session (Reset port side checks.PeerGone) Made h fs fa fr = no-truth h
read-back v n first session (Reset port side (checks.RecordFull what used want)) Made h fs fa fr =
    no-truth h
read-back v n first session (Reset port side checks.NoMemory) Made h fs fa fr = no-truth h
read-back v n first session (PutKept port offered) (Took items to) h fs fa fr =
    let parts = and_parts (list_all is_unmarked items) (dests_rise to) h in
    rw (short-back session.0 fs, short-back port.0 fa.0, short-back offered fa.1)
    (rw (items-back items fr.0 (unmarked-each items parts.0), dests-back to fr.1) refl)
read-back v n first session (PutKept port offered) PeerGone h fs fa fr =
    rw (short-back session.0 fs, short-back port.0 fa.0, short-back offered fa.1) refl
read-back v n first session (Get port back) (Gave count to) h fs fa fr =
    rw (short-back session.0 fs, short-back port.0 fa.0, buffers-back v back fa.1)
    (rw (short-back count fr.0, dests-back to fr.1) refl)
read-back v n first session (Watch monitor target sides) (Watching port) h fs fa fr =
    watch-back v n first session monitor target sides (Watching port) h fs fa
    (rw (short-back port.0 fr) refl)
read-back v n first session (Watch monitor target sides) NoTarget h fs fa fr =
    watch-back v n first session monitor target sides NoTarget h fs fa refl
read-back v n first session (Watch monitor target sides) (Watched by) h fs fa fr =
    watch-back v n first session monitor target sides (Watched by) h fs fa
    (rw (short-back by.0 fr) refl)
read-back v n first session (Stat port) (Counted counts) h fs fa fr =
    entry-same (session-read session fs) (ap Stat (port-back port fa))
    (ap Counted (counts-back counts fr))
read-back v n first session ask reply h fs fa fr = no-truth h

pub words-read : WordsAreRead
words-read v n first entry h fits = read-back v n first entry.session entry.ask entry.reply h fits.0 fits.1 fits.2
