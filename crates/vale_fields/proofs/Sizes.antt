-- What is read fits its fields.
use Rattle.std.specs.List.{AllByRecursion as Each, range_with_len}
use Rattle.std.proofs.Common.{ℕ, zero, suc, ◌+◌, ◌-◌, ◌≤◌, nat_le, Bool, true, false, if◌then◌else◌, List, [], ◌∷◌, map, flat_map, take, drop, codes, bytes_eq, Option, Some, None, IfSome, option_map, refl, sym, subst, arith, ◌≡◌}
use Rattle.std.proofs.lemmas.Bool.{leb-true}
use Rattle.std.proofs.lemmas.Bool.Decides.{nat_tests}
use Rattle.nm_types.specs.declared.fault.OpenFault.TheVariants.{BadSize, SwitchesFull, PortsFull, NameTaken, NoBuffers}
use Rattle.nm_types.specs.declared.fault.SyncFault.TheVariants.{HeadOut, CurOut, Indirect, IndexOut, NotHeld, Doubled, Unannounced, LongLen, Fragment}
use Rattle.vale_entry.specs.declared.entry.Reply.TheVariants as replies
use Rattle.vale_entry.specs.declared.entry.Entry.{Entry}
use Rattle.vale_entry.specs.declared.entry.Span.{Span}
use Rattle.vale_entry.specs.Spans.{numbers_in}
use Rattle.vale_entry.proofs.Spans.{EndsAre}
use Rattle.vale_entry.proofs.Each.{each-append}
use Rattle.vale_fields.proofs.HexBlocks.{hex-low}
use Rattle.vale_fields.specs.Fields.{bytes_of, is_marked, frame_of, span_by, span_of, dest_of, item_of, short_of, name_of, half_of, front_by, back_by, mark_in}
use Rattle.vale_words.specs.Fixed.{word_at}
use Rattle.vale_fields.specs.Lists.{parts_of, numbers_of, dests_of, items_of, frames_of}
use Rattle.vale_fields.specs.Rows.{entry_of, row_of, open_with, open_answer, watch_with, watch_answer, put_answer, fault_by, enter_row, open_row, send_row, grant_row, done_row, sync_row, get_row, reset_row, shut_row, finish_row, leave_row, put_row, watch_row, stat_row}
use Rattle.vale_fields.specs.Laws.{WhatIsReadFits}
use Rattle.vale_entry.specs.Fits.{DestFits, FaultFits, ReplyFits}
use Rattle.vale_fields.specs.Widths.{IsByte, AreBytes, Is32, FitsItem, FitsFields, field_widths}
use Rattle.vale_fields.proofs.Numerals.{long-fits, short-fits, half-fits}

bytes-fit : (ds : List ℕ) → Each IsByte (bytes_of ds)
bytes-fit [] = tt
bytes-fit (x ∷ []) = tt
bytes-fit (x ∷ y ∷ ds) =
    let high = hex-low x in
    let low = hex-low y in
    (omega (arith, high, low), bytes-fit ds)

frame-fits : (w : List ℕ) → AreBytes (frame_of w)
unfolding frame_of
frame-fits w = by_mark (is_marked w)
  where
    by_mark : (b : Bool) → AreBytes (if b then (record { bytes = bytes_of (drop 1 w); no_learn = true }) else (record { bytes = bytes_of w; no_learn = false }))
    by_mark true = bytes-fit (drop 1 w)
    by_mark false = bytes-fit w

span-fits : (w : List ℕ) → EndsAre Is32 (span_of w)
unfolding span_of
span-fits w = by_mark (mark_in 45 w)
  where
    by_mark : (k : Option ℕ) → EndsAre Is32 (span_by k w)
    by_mark None = (short-fits w, short-fits w)
    by_mark (Some k) = (short-fits (take k w), short-fits (drop (k + 1) w))

dest-fits : (w : List ℕ) → DestFits field_widths (dest_of w)
unfolding dest_of
dest-fits w = (short-fits (front_by (mark_in 42 w) w), short-fits (back_by (mark_in 42 w) w))

item-fits : (w : List ℕ) → FitsItem (item_of w)
unfolding item_of
item-fits w = (short-fits (front_by (mark_in 58 w) w), bytes-fit (back_by (mark_in 58 w) w))

map-fits : {X : Type 0} (f : List ℕ → X) (P : X → Type 0) → ((w : List ℕ) → P (f w)) → (ws : List (List ℕ)) → Each P (map f ws)
map-fits f P fits [] = tt
map-fits f P fits (w ∷ ws) = (fits w, map-fits f P fits ws)

-- the numbers of a span are at most its last
range-fits : (first count last : ℕ) → first + count ≤ last + 1 → Is32 last → Each Is32 (range_with_len first count)
range-fits first zero last within fits = tt
range-fits first (suc count) last within fits = (omega (arith, within, fits), range-fits (first + 1) count last (omega (arith, within)) fits)

numbers-in-fit : (s : Span) → EndsAre Is32 s → Each Is32 (numbers_in s)
numbers-in-fit s fits = by_order (nat_le s.first (s.last + 1)) refl
  where
    by_order : (b : Bool) → nat_le s.first (s.last + 1) ≡ b → Each Is32 (numbers_in s)
    by_order true is = range-fits s.first (s.last + 1 - s.first) s.last (let low = leb-true s.first (s.last + 1) is in omega (arith, low)) fits.1
    by_order false is =
        let none : s.last + 1 - s.first ≡ 0 = grind (arith, nat_tests, is) in
        subst (λ (k : ℕ). Each Is32 (range_with_len s.first k)) (sym none) tt

spans-fit : (spans : List Span) → Each (EndsAre Is32) spans → Each Is32 (flat_map numbers_in spans)
spans-fit [] all = tt
spans-fit (s ∷ spans) all = each-append Is32 (numbers_in s) (flat_map numbers_in spans) (numbers-in-fit s all.0) (spans-fit spans all.1)

numbers-fit : (w : List ℕ) → Each Is32 (numbers_of w)
numbers-fit w = spans-fit (map span_of (parts_of w)) (map-fits span_of (EndsAre Is32) span-fits (parts_of w))

dests-fit : (w : List ℕ) → Each (DestFits field_widths) (dests_of w)
dests-fit w = map-fits dest_of (DestFits field_widths) dest-fits (parts_of w)

items-fit : (w : List ℕ) → Each FitsItem (items_of w)
items-fit w = map-fits item_of FitsItem item-fits (parts_of w)

frames-fit : (w : List ℕ) → Each AreBytes (frames_of w)
frames-fit w = map-fits frame_of AreBytes frame-fits (parts_of w)

-- one of two values
either-fits : {X : Type 0} (P : X → Type 0) (b : Bool) (x y : X) → P x → P y → P (if b then x else y)
either-fits P true x y px py = px
either-fits P false x y px py = py

at : (i : ℕ) (ws : List (List ℕ)) → Is32 (short_of (word_at i ws))
at i ws = short-fits (word_at i ws)

answer-fits : (w : List ℕ) (ws : List (List ℕ)) → ReplyFits field_widths (open_answer w ws)
answer-fits w ws =
    either-fits (ReplyFits field_widths) (bytes_eq w (codes "ok")) replies.Opened _ tt
    (either-fits (ReplyFits field_widths) (bytes_eq w (codes "badsize")) (replies.Refused BadSize) _ tt
    (either-fits (ReplyFits field_widths) (bytes_eq w (codes "switchesfull")) (replies.Refused SwitchesFull) _ tt
    (either-fits (ReplyFits field_widths) (bytes_eq w (codes "portsfull")) (replies.Refused PortsFull) _ tt
    (either-fits (ReplyFits field_widths) (bytes_eq w (codes "nametaken")) (replies.Refused NameTaken) (replies.Refused (NoBuffers (short_of (word_at 9 ws)) (short_of (word_at 10 ws)))) tt (at 9 ws, at 10 ws)))))

took-fits : (w : List ℕ) (ws : List (List ℕ)) → ReplyFits field_widths (put_answer w ws)
took-fits w ws = either-fits (ReplyFits field_widths) (bytes_eq w (codes "took")) (replies.Took (items_of (word_at 7 ws)) (dests_of (word_at 9 ws))) replies.PeerGone (items-fit (word_at 7 ws), dests-fit (word_at 9 ws)) tt

watch-fits : (w : List ℕ) (ws : List (List ℕ)) → ReplyFits field_widths (watch_answer w ws)
watch-fits w ws =
    either-fits (ReplyFits field_widths) (bytes_eq w (codes "ok")) (replies.Watching (record { 0 = short_of (word_at 8 ws) })) _ (at 8 ws)
    (either-fits (ReplyFits field_widths) (bytes_eq w (codes "watched")) (replies.Watched (record { 0 = short_of (word_at 8 ws) })) replies.NoTarget (at 8 ws) tt)

fault-fits : (w : List ℕ) (ws : List (List ℕ)) → FaultFits field_widths (fault_by w ws)
fault-fits w ws =
    let a = at 6 ws in
    let b = at 7 ws in
    let c = at 8 ws in
    either-fits (FaultFits field_widths) (bytes_eq w (codes "headout")) (HeadOut (short_of (word_at 6 ws)) (short_of (word_at 7 ws)) (short_of (word_at 8 ws))) _ (a, b, c)
    (either-fits (FaultFits field_widths) (bytes_eq w (codes "curout")) (CurOut (short_of (word_at 6 ws)) (short_of (word_at 7 ws)) (short_of (word_at 8 ws))) _ (a, b, c)
    (either-fits (FaultFits field_widths) (bytes_eq w (codes "indirect")) (Indirect (short_of (word_at 6 ws))) _ a
    (either-fits (FaultFits field_widths) (bytes_eq w (codes "indexout")) (IndexOut (short_of (word_at 6 ws)) (short_of (word_at 7 ws))) _ (a, b)
    (either-fits (FaultFits field_widths) (bytes_eq w (codes "notheld")) (NotHeld (short_of (word_at 6 ws)) (short_of (word_at 7 ws))) _ (a, b)
    (either-fits (FaultFits field_widths) (bytes_eq w (codes "doubled")) (Doubled (short_of (word_at 6 ws)) (short_of (word_at 7 ws))) _ (a, b)
    (either-fits (FaultFits field_widths) (bytes_eq w (codes "unannounced")) (Unannounced (short_of (word_at 6 ws)) (short_of (word_at 7 ws)) (short_of (word_at 8 ws))) _ (a, b, c)
    (either-fits (FaultFits field_widths) (bytes_eq w (codes "longlen")) (LongLen (short_of (word_at 6 ws)) (half_of (word_at 7 ws))) (Fragment (short_of (word_at 6 ws))) (a, half-fits (word_at 7 ws)) a)))))))

abbrev MayFit : Option Entry → Type 0
MayFit entry = IfSome entry FitsFields

open-fits : (ws : List (List ℕ)) (name : Option (List ℕ)) → MayFit (option_map (open_with ws) name)
open-fits ws None = tt
open-fits ws (Some name) = (at 1 ws, (at 4 ws, at 5 ws, at 6 ws), answer-fits (word_at 8 ws) ws)

watched-fits : (ws : List (List ℕ)) (name : Option (List ℕ)) → MayFit (option_map (watch_with ws) name)
watched-fits ws None = tt
watched-fits ws (Some name) = (at 1 ws, at 3 ws, watch-fits (word_at 7 ws) ws)

counts-fit : (ws : List (List ℕ)) → FitsFields (stat_row ws)
counts-fit ws = (at 1 ws, at 3 ws, (long-fits (word_at 6 ws), long-fits (word_at 8 ws), long-fits (word_at 10 ws), long-fits (word_at 12 ws), long-fits (word_at 14 ws), long-fits (word_at 16 ws)))

row-fits : (n : ℕ) (verb : List ℕ) (ws : List (List ℕ)) → Is32 n → MayFit (row_of n verb ws)
row-fits n verb ws small =
    let s = at 1 ws in
    let port = at 3 ws in
    either-fits MayFit (bytes_eq verb (codes "open")) (open_row ws) _ (open-fits ws (name_of (word_at 3 ws)))
    (either-fits MayFit (bytes_eq verb (codes "send")) (Some (send_row ws)) _ (s, (port, frames-fit (word_at 4 ws)), (at 7 ws, at 9 ws, dests-fit (word_at 11 ws)))
    (either-fits MayFit (bytes_eq verb (codes "grant")) (Some (grant_row ws)) _ (s, (port, at 4 ws), (at 7 ws, at 9 ws, at 11 ws))
    (either-fits MayFit (bytes_eq verb (codes "done")) (Some (done_row ws)) _ (s, port, tt)
    (either-fits MayFit (bytes_eq verb (codes "sync")) (Some (sync_row ws)) _ (s, (port, numbers-fit (word_at 4 ws)), (at 7 ws, dests-fit (word_at 9 ws)))
    (either-fits MayFit (bytes_eq verb (codes "get")) (Some (get_row ws)) _ (s, (port, numbers-fit (word_at 4 ws)), (at 7 ws, dests-fit (word_at 9 ws)))
    (either-fits MayFit (bytes_eq verb (codes "reset")) (Some (reset_row ws)) _ (s, (port, fault-fits (word_at 5 ws) ws), tt)
    (either-fits MayFit (bytes_eq verb (codes "shut")) (Some (shut_row ws)) _ (s, port, tt)
    (either-fits MayFit (bytes_eq verb (codes "finish")) (Some (finish_row ws)) _ (s, (port, numbers-fit (word_at 4 ws), at 6 ws, at 8 ws), at 11 ws)
    (either-fits MayFit (bytes_eq verb (codes "leave")) (Some (leave_row ws)) _ (s, tt, tt)
    (either-fits MayFit (bytes_eq verb (codes "put")) (Some (put_row ws)) _ (s, (port, at 4 ws), took-fits (word_at 6 ws) ws)
    (either-fits MayFit (bytes_eq verb (codes "watch")) (watch_row ws) _ (watched-fits ws (name_of (word_at 4 ws)))
    (either-fits MayFit (bytes_eq verb (codes "stat")) (Some (stat_row ws)) (Some (enter_row n ws)) (counts-fit ws) (small, long-fits (word_at 2 ws), tt)))))))))))))

pub what-fits : WhatIsReadFits
unfolding entry_of
what-fits n words small = row-fits n (word_at 2 words) words small
