-- Where each session has left, all buffers are free.
use Rattle.std.proofs.Common.{ℕ, ◌≡◌, List, [], ◌∷◌, length, map, sum_by, refl, sym, ◌∙◌, ap, subst, arith}
use Rattle.std.specs.List.{AllByRecursion as Each}
use Rattle.vale_entry.specs.World.{Port, buffers_of, free_count}
use Rattle.vale_entry.specs.Laws.{IsPortOf}
use Rattle.vale_entry.proofs.HistoryLaws.{history-stands}
use Rattle.vale_entry.proofs.Numbered.{world-numbered}
use Rattle.vale_book.specs.Recorded.{Recorded, standing}
use Rattle.vale_serve.specs.declared.users.User.{User}
use Rattle.vale_serve.specs.Joined.{AreUsersOf}
use Rattle.vale_serve.specs.Users.{id_of_user}

none-owned : (sessions : List ℕ) (ports : List Port) → sessions ≡ [] → Each (IsPortOf sessions) ports → ports ≡ []
none-owned sessions [] none owned = refl
none-owned sessions (p ∷ ps) none owned = absurd (let here = subst (λ (ss : List ℕ). IsPortOf ss p) none owned.0 in cc)

no-users : (users : List User) → length users ≡ 0 → users ≡ []
no-users [] e = refl
no-users (u ∷ us) e = absurd (omega (arith, e))

pub none-there : (b : Recorded) (users : List User) → AreUsersOf b users → length users ≡ 0 → (standing b).world.sessions ≡ []
none-there b users k none = sym k.ids ∙ ap (λ (us : List User). map id_of_user us) (no-users users none)

pub all-free : (b : Recorded) (users : List User) → AreUsersOf b users → length users ≡ 0 → free_count (standing b).world ≡ b.pool
all-free b users k none =
    let w = (standing b).world in
    let ports = none-owned w.sessions w.ports (none-there b users k none) (world-numbered b.pool b.entries).ports_owned in
    let pool = (history-stands b.pool b.entries k.legal).pool_is in
    let sum = ap (λ (ps : List Port). sum_by buffers_of ps) ports in
    omega (arith, sum, pool)

none-mapped : (users : List User) → map id_of_user users ≡ [] → users ≡ []
none-mapped [] e = refl
none-mapped (u ∷ us) e = absurd cc

pub all-left : (b : Recorded) (users : List User) → AreUsersOf b users → (standing b).world.sessions ≡ [] → users ≡ []
all-left b users k left = none-mapped users (k.ids ∙ left)
