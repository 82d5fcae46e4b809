-- A user comes.
use Rattle.std.proofs.Common.{ℕ, List, [], ◌∷◌, ◌++◌, ◌≡◌, ◌<◌, ◌^◌, ◌+◌, length, true, map, Some, Result, Ok, Err, IfOk, OnOk, refl, ◌∙◌, ap, arith}
use Rattle.std.proofs.lemmas.Bool.{lt-ltb}
use Rattle.std.proofs.lemmas.List.{map-append}
use Rattle.nm_types.specs.declared.id.SessionId.{SessionId}
use Rattle.nm_types.specs.declared.fault.StepFault.{StepFault}
use Rattle.vale_entry.specs.declared.entry.Ask.TheVariants.{Enter}
use Rattle.vale_entry.specs.declared.entry.Reply.TheVariants.{Made}
use Rattle.vale_entry.specs.declared.entry.Entry.{Entry}
use Rattle.vale_entry.specs.Legal.{Standing, fits_u64, enter_step, step}
use Rattle.vale_entry.specs.Stored.{Fits}
use Rattle.vale_entry.proofs.Worlds.{count-world_of}
use Rattle.vale_book.specs.declared.book.Book.TheInside.{Inside}
use Rattle.vale_book.specs.BookView.{parts_in, number_of_session, IsBook}
use Rattle.vale_book.proofs.Moves.{Moves, before, fits-step, parts-stay}
use Rattle.vale_book.proofs.Quiet.{quiet-moves}

pub enter-made : (s : Standing) (user : ℕ) → user < 2 ^ 64 → step s (Enter user) ≡ Some (enter_step s)
enter-made s user small = let fits : fits_u64 user ≡ true = lt-ltb user (2 ^ 64) small in rw fits refl

abbrev coming : ℕ → SessionId → Entry
coming user id = record { session = id; ask = Enter user; reply = Made }

abbrev id_of : ℕ → SessionId
id_of n = record { 0 = n }

pub enter-moves : (r : Result SessionId StepFault) (b next : Inside) (user : ℕ) → user < 2 ^ 64 → IsBook b
    → IfOk r (λ (id : SessionId). next.history.entries ≡ b.history.entries ++ coming user id ∷ [])
    → IfOk r (λ (id : SessionId). id.0 ≡ length b.history.entries + 1)
    → OnOk r (next.history.promised ≡ b.history.promised + 1)
    → IfOk r (λ (id : SessionId). next.sessions.items ≡ b.sessions.items ++ id ∷ [])
    → next.history.limits ≡ b.history.limits
    → OnOk r (Fits b.history 2 0)
    → next.ports.items ≡ b.ports.items → parts_in next ≡ parts_in b → next.region ≡ b.region → next.buffers ≡ b.buffers
    → OnOk r (Moves b next (Enter user) (enter_step (before b)))
enter-moves (Err e) b next user small k entries number promised sessions limits fits ports parts region buffers = tt
enter-moves (Ok id) b next user small k entries number promised sessions limits fits ports parts region buffers =
    let count = count-world_of b.pool.buffers b.history.entries in
    let same : number_of_session id ≡ (before b).world.entry_count + 1 = omega (arith, count, number) in
    quiet-moves b next (Enter user) (enter_step (before b)) k (enter-made (before b) user small) k.stands.ports_are (parts-stay (before b) (Enter user) Made (parts_in b) refl)
    (entries ∙ ap (λ (n : ℕ). b.history.entries ++ coming user (id_of n) ∷ []) same) limits (omega (arith, promised)) (fits-step b (Enter user) (enter_step (before b)) k fits)
    (ap (map number_of_session) sessions ∙ (map-append number_of_session b.sessions.items (id ∷ [])
    ∙ (ap (λ (ns : List ℕ). ns ++ number_of_session id ∷ []) k.stands.sessions_are ∙ ap (λ (n : ℕ). (before b).world.sessions ++ n ∷ []) same)))
    ports parts region buffers
