-- A session leaves.
use Rattle.std.proofs.Common.{ℕ, Bool, true, false, cond, List, [], ◌∷◌, ◌++◌, ◌≡◌, ◌+◌, map, Some, refl, ◌∙◌, ap, arith}
use Rattle.nm_types.specs.declared.id.SessionId.{SessionId}
use Rattle.vale_entry.specs.declared.entry.Ask.TheVariants.{Leave}
use Rattle.vale_entry.specs.declared.entry.Reply.TheVariants.{Made}
use Rattle.vale_entry.specs.declared.entry.Entry.{Entry}
use Rattle.vale_entry.specs.Closing.{sessions_without}
use Rattle.vale_entry.specs.Legal.{Standing, IsEnabled, leave_step, step}
use Rattle.vale_book.specs.declared.book.Book.TheInside.{Inside}
use Rattle.vale_book.specs.BookView.{recorded, parts_in, number_of_session, IsBook}
use Rattle.vale_own.specs.Recorded.{HasRoomFor}
use Rattle.vale_book.specs.Sessions.{is_other_user, users_without}
use Rattle.vale_book.proofs.Moves.{Moves, before, parts-stay}
use Rattle.vale_book.proofs.Quiet.{quiet-moves}

pub leave-made : (s : Standing) (session : SessionId) → IsEnabled s (Leave session) → step s (Leave session) ≡ Some (leave_step s session.0)
leave-made s session enabled = rw enabled refl

without-step : (kept : Bool) (user : SessionId) (users : List SessionId) (rest : List ℕ) → map number_of_session users ≡ rest
    → map number_of_session (cond kept (user ∷ users) users) ≡ cond kept (number_of_session user ∷ rest) rest
without-step true user users rest same = ap (λ (ns : List ℕ). number_of_session user ∷ ns) same
without-step false user users rest same = same

numbers-without : (session : ℕ) (users : List SessionId) → map number_of_session (users_without session users) ≡ sessions_without session (map number_of_session users)
numbers-without session [] = refl
numbers-without session (user ∷ users) =
    without-step (is_other_user session user) user (users_without session users) (sessions_without session (map number_of_session users)) (numbers-without session users)

abbrev leaving : SessionId → Entry
leaving session = record { session = session; ask = Leave session; reply = Made }

pub leave-moves : (b next : Inside) (session : SessionId) → IsBook b → IsEnabled (before b) (Leave session)
    → HasRoomFor (recorded b) (Leave session) (leave_step (before b) session.0)
    → next.history.entries ≡ b.history.entries ++ leaving session ∷ []
    → next.history.promised + 1 ≡ b.history.promised
    → next.history.limits ≡ b.history.limits
    → next.sessions.items ≡ users_without session.0 b.sessions.items
    → next.ports.items ≡ b.ports.items → parts_in next ≡ parts_in b → next.region ≡ b.region → next.buffers ≡ b.buffers
    → Moves b next (Leave session) (leave_step (before b) session.0)
leave-moves b next session k enabled room entries promised limits sessions ports parts region buffers =
    quiet-moves b next (Leave session) (leave_step (before b) session.0) k (leave-made (before b) session enabled) k.stands.ports_are (parts-stay (before b) (Leave session) Made (parts_in b) refl)
    entries limits (omega (arith, promised)) room
    (ap (map number_of_session) sessions ∙ (numbers-without session.0 b.sessions.items ∙ ap (sessions_without session.0) k.stands.sessions_are)) ports parts region buffers
