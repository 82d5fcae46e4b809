-- What a user has worked in every longer history, and where it has stopped.
use Rattle.std.proofs.Common.{ℕ, ◌≤◌, ◌≡◌, List, [], ◌∷◌, length, take, sym, ◌∙◌, ap, arith, le_refl}
use Rattle.std.specs.List.{AllByRecursion}
use Rattle.std.proofs.lemmas.List.{take-append-le}
use mathlib.Core.List.{IsPrefix}
use Rattle.nm_turn.specs.Numbered.{numbers}
use Rattle.vale_entry.specs.declared.entry.Entry.{Entry}
use Rattle.vale_entry.specs.Laws.{Rise}
use Rattle.vale_entry.specs.Legal.{standing_of}
use Rattle.vale_entry.proofs.Rising.{rise-bounds}
use Rattle.vale_replay.specs.Machine.{next_call}
use Rattle.vale_replay.specs.Joined.{IsWithin}
use Rattle.vale_replay.specs.Replay.{last_of}
use Rattle.vale_player.specs.Laws.{WorkIsKept, StopIsKept, StoppedCallIsKept, WorkIsWithin}
use Rattle.vale_player.proofs.Working.{last-within, longer-replays, replays-of}

-- the beginning of a history is one of every longer one
pub take-longer : (h k : List Entry) (n : ℕ) → IsPrefix h k → n ≤ length h → take n k ≡ take n h
take-longer h k n begins within = ap (take n) (sym begins.1) ∙ take-append-le n h begins.0 within

pub work-kept : WorkIsKept
work-kept pool began knows first after history begins worked =
    let works = worked.works in
    let plays = worked.plays in
    let ns = numbers works.added in
    record {
      replays = longer-replays pool knows.seen history first ns after begins (replays-of works);
      no_task = plays.no_task;
      ended = ap (λ (es : List Entry). next_call (standing_of pool es).world after) (take-longer knows.seen history (last_of ns) begins (last-within works)) ∙ plays.ended;
    }

pub stop-kept : StopIsKept
stop-kept fixed began knows first fault history begins stopped =
    longer-replays fixed.pool knows.seen history first (numbers stopped.works.added) stopped.after begins (replays-of stopped.works)

pub call-kept : StoppedCallIsKept
call-kept fixed knows ns after fault history begins refused =
    let stops = refused.stops in
    let n = length knows.seen in
    record {
      seen = stops.seen;
      called = ap (λ (es : List Entry). next_call (standing_of fixed.pool es).world after) (take-longer knows.seen history n begins (le_refl n)) ∙ stops.called;
    }

rise-inside : (first low : ℕ) (ns : List ℕ) (last : ℕ) → first ≤ low → Rise low ns last → AllByRecursion (IsWithin first last) ns
rise-inside first low [] last up r = tt
rise-inside first low (n ∷ ns) last up r =
    let above = r.0 in
    let high : n ≤ last = rise-bounds n ns last r.1 in
    ((omega (arith, up, above), high), rise-inside first n ns last (omega (arith, up, above)) r.1)

pub work-within : WorkIsWithin
work-within pool began knows first after works = rise-inside (length began.seen) (length began.seen) (numbers works.added) (length knows.seen) (le_refl (length began.seen)) works.rise
