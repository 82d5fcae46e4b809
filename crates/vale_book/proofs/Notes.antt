-- An entry that changes nothing else.
use Rattle.std.proofs.Common.{ℕ, [], ◌∷◌, ◌++◌, ◌≡◌, Some, Result, Ok, Err, OnOk, OnErr, refl, sym, subst, arith}
use Rattle.nm_types.specs.declared.fault.StepFault.{StepFault}
use Rattle.vale_entry.specs.declared.entry.Ask.{Ask}
use Rattle.vale_entry.specs.declared.entry.Reply.{Reply}
use Rattle.vale_entry.specs.Legal.{step, unchanged, kept_ask}
use Rattle.vale_entry.specs.Room.{bytes_of}
use Rattle.vale_entry.specs.Stored.{Stored, Fits}
use Rattle.vale_parts.specs.Parts.{ArePartsAfter}
use Rattle.vale_book.specs.declared.book.Book.TheInside.{Inside}
use Rattle.vale_book.specs.BookView.{parts_in, IsBook}
use Rattle.vale_own.specs.Recorded.{entry_of}
use Rattle.vale_book.proofs.Moves.{Moves, Stays, before, fits-step}
use Rattle.vale_book.proofs.Quiet.{quiet-moves}

abbrev pub with_history : Inside → Stored → Inside
with_history b h = record b { history = h }

-- an ask whose step leaves what stands
pub record IsNote (b : Inside) (ask : Ask) (session : ℕ) (reply : Reply) : Type 0 where
  pub step_is : step (before b) ask ≡ Some (unchanged (before b) session reply)
  pub no_bytes : bytes_of ask reply ≡ 0
  pub parts : ArePartsAfter (before b).world (before b).holdings (kept_ask ask) reply (parts_in b) (parts_in b)

fits-note : (b : Inside) (ask : Ask) (session : ℕ) (reply : Reply) → IsNote b ask session reply → Fits b.history 1 0 → Fits b.history 1 (bytes_of ask reply)
fits-note b ask session reply note fits = subst (λ (n : ℕ). Fits b.history 1 n) (sym note.no_bytes) fits

pub note-moves : {A : Type 0} (r : Result A StepFault) (b : Inside) (h : Stored) (ask : Ask) (session : ℕ) (reply : Reply) → IsBook b → IsNote b ask session reply
    → OnOk r (h.entries ≡ b.history.entries ++ entry_of ask (unchanged (before b) session reply) ∷ []) → h.promised ≡ b.history.promised → h.limits ≡ b.history.limits → OnOk r (Fits b.history 1 0)
    → OnOk r (Moves b (with_history b h) ask (unchanged (before b) session reply))
note-moves (Err e) b h ask session reply k note entries promised limits fits = tt
note-moves (Ok a) b h ask session reply k note entries promised limits fits =
    quiet-moves b (with_history b h) ask (unchanged (before b) session reply) k note.step_is k.stands.ports_are note.parts entries limits (omega (arith, promised))
    (fits-step b ask (unchanged (before b) session reply) k (fits-note b ask session reply note fits)) k.stands.sessions_are refl refl refl refl

pub note-stays : {A : Type 0} (r : Result A StepFault) (b : Inside) (h : Stored) → OnErr r (h.entries ≡ b.history.entries) → h.promised ≡ b.history.promised → h.limits ≡ b.history.limits
    → OnErr r (Stays b (with_history b h))
note-stays (Ok a) b h entries promised limits = tt
note-stays (Err e) b h entries promised limits =
    record { entries = entries; limits = limits; promised = promised; sessions = refl; ports = refl; parts = refl; region = refl; buffers = refl }
