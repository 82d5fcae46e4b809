-- A session is there that has come and has not left.
use Rattle.std.proofs.Common.{ℕ, zero, suc, ◌+◌, ◌≤◌, ◌≡◌, Bool, true, false, not, ◌&&◌, ◌||◌, ◌==◌, ◌⊎◌, inl, inr, List, [], ◌∷◌, ◌++◌, filter, length, slice_get, Some, refl, sym, ◌∙◌, ap, ap₂, subst, arith}
use Rattle.std.specs.List.{list_any}
use Rattle.std.proofs.lemmas.Bool.{eq-eqb, ne_eqb, cases_eq}
use Rattle.std.proofs.Math.Bool.{and-false}
use Rattle.vale_entry.specs.declared.entry.Ask.{Ask}
use Rattle.vale_entry.specs.declared.entry.Ask.TheVariants.{Enter}
use Rattle.vale_entry.specs.declared.entry.Entry.{Entry}
use Rattle.vale_entry.specs.declared.entry.Reply.{Reply}
use Rattle.nm_types.specs.declared.id.PortId.{PortId}
use Rattle.nm_types.proofs.Tests.{or_none}
use Rattle.vale_entry.specs.World.{World}
use Rattle.vale_entry.specs.Legal.{Standing, standing_of, world_of, IsLegal, Follows, is_met, enter_step}
use Rattle.vale_entry.proofs.Worlds.{standing-push, count-world_of}
use Rattle.vale_entry.proofs.Told.{history-by}
use Rattle.vale_entry.proofs.Follows.{EachKind, IsQuiet, refused_open, Receives, by_sync, by_get, Left, entry_made, follows-by}
use Rattle.vale_entry.proofs.Numbered.{world-numbered}
use Rattle.vale_entry.proofs.Agreeing.{among-bound}
use Rattle.vale_own.specs.Asker.{is_enter}
use Rattle.vale_own.specs.There.{is_coming, is_leave_of, is_leaving, has_come, has_left}
use Rattle.vale_own.specs.Laws.{ThereIsCome}
use Rattle.vale_own.proofs.Lists.{any-pushed, any-filtered}
use Rattle.vale_own.proofs.Newcomers.{any-last}
use Rattle.vale_own.proofs.Mine.{none-left}

abbrev is_among : List ℕ → ℕ → Bool
is_among sessions session = list_any (λ (k : ℕ). k == session) sessions

-- what is known of a session after a history, with these sessions there
record Known (h : List Entry) (sessions : List ℕ) (session : ℕ) : Type 0 where
  there : is_among sessions session ≡ (has_come h session && not (has_left h session))
  bound : has_left h session ≡ true → session ≤ length h

any-snoc : {X : Type 0} (p : X → Bool) (xs : List X) (x : X) → list_any p (xs ++ x ∷ []) ≡ (list_any p xs || p x)
any-snoc p [] x = by (p x)
  where
    by : (b : Bool) → (b || false) ≡ b
    by true = refl
    by false = refl
any-snoc p (y ∷ ys) x = by (p y) (any-snoc p ys x)
  where
    by : (b : Bool) → list_any p (ys ++ x ∷ []) ≡ (list_any p ys || p x) → (b || list_any p (ys ++ x ∷ [])) ≡ ((b || list_any p ys) || p x)
    by true rest = refl
    by false rest = rest

-- an entry more that is no Enter, or at another place
get-snoc : (h : List Entry) (e : Entry) (i : ℕ) → (is_coming e ≡ false) ⊎ (i ≡ length h → ⊥) → is_met is_coming (slice_get (h ++ e ∷ []) i) ≡ is_met is_coming (slice_get h i)
get-snoc [] e zero (inl none) = none
get-snoc [] e zero (inr other) = absurd (other refl)
get-snoc [] e (suc i) other = refl
get-snoc (x ∷ xs) e zero other = refl
get-snoc (x ∷ xs) e (suc i) (inl none) = get-snoc xs e i (inl none)
get-snoc (x ∷ xs) e (suc i) (inr other) = get-snoc xs e i (inr (λ same. other (omega (arith, same))))

get-last : (h : List Entry) (e : Entry) → slice_get (h ++ e ∷ []) (length h) ≡ Some e
get-last [] e = refl
get-last (x ∷ xs) e = get-last xs e

come-kept : (h : List Entry) (e : Entry) (session : ℕ) → (is_coming e ≡ false) ⊎ (session ≡ length h + 1 → ⊥) → has_come (h ++ e ∷ []) session ≡ has_come h session
come-kept h e zero other = refl
come-kept h e (suc n) (inl none) = get-snoc h e n (inl none)
come-kept h e (suc n) (inr other) = get-snoc h e n (inr (λ same. other (omega (arith, same))))

longer : (h : List Entry) (e : Entry) → length (h ++ e ∷ []) ≡ length h + 1
longer [] e = refl
longer (x ∷ xs) e = let rest = longer xs e in omega (arith, rest)

-- an entry that is neither an Enter nor a Leave of the session
known-kept : (h : List Entry) (sessions : List ℕ) (e : Entry) (session : ℕ) → is_coming e ≡ false → is_leaving session e ≡ false → Known h sessions session → Known (h ++ e ∷ []) sessions session
known-kept h sessions e session none stays k =
    let left : has_left (h ++ e ∷ []) session ≡ has_left h session = any-snoc (is_leaving session) h e ∙ (ap (λ (b : Bool). has_left h session || b) stays ∙ or_none (has_left h session)) in
    let come = come-kept h e session (inl none) in
    record { there = k.there ∙ sym (ap₂ (λ (a b : Bool). a && not b) come left); bound = λ l. let b = k.bound (sym left ∙ l) in let long = longer h e in omega (arith, b, long) }

-- an Enter
known-enter : (h : List Entry) (sessions : List ℕ) (e : Entry) (session : ℕ) → is_coming e ≡ true → is_leaving session e ≡ false → Known h sessions session
    → Known (h ++ e ∷ []) (sessions ++ (length h + 1) ∷ []) session
known-enter h sessions e session comes stays k = by (cases_eq (length h + 1) session)
  where
    left : has_left (h ++ e ∷ []) session ≡ has_left h session
    left = any-snoc (is_leaving session) h e ∙ (ap (λ (b : Bool). has_left h session || b) stays ∙ or_none (has_left h session))

    bounded : has_left (h ++ e ∷ []) session ≡ true → session ≤ length (h ++ e ∷ [])
    bounded l = let b = k.bound (sym left ∙ l) in let long = longer h e in omega (arith, b, long)

    new : (b : Bool) → has_left h session ≡ b → session ≡ length h + 1 → has_left (h ++ e ∷ []) session ≡ false
    new true t is = absurd (let b = k.bound t in omega (arith, b, is))
    new false t is = left ∙ t

    by : (length h + 1 ≡ session) ⊎ (length h + 1 ≡ session → ⊥) → Known (h ++ e ∷ []) (sessions ++ (length h + 1) ∷ []) session
    by (inl same) =
        let none = new (has_left h session) refl (sym same) in
        let is : suc (length h) ≡ session = omega (arith, same) in
        let come : has_come (h ++ e ∷ []) session ≡ true =
        subst (λ (k : ℕ). has_come (h ++ e ∷ []) k ≡ true) is (ap (is_met is_coming) (get-last h e) ∙ comes) in
        record { there = subst (λ (k : ℕ). is_among (sessions ++ (length h + 1) ∷ []) k ≡ true) same (any-last (length h + 1) sessions) ∙ sym (rw (come, none) refl); bound = bounded }
    by (inr other) =
        let come = come-kept h e session (inr (λ s. other (sym s))) in
        record { there = any-pushed session (length h + 1) sessions other ∙ (k.there ∙ sym (ap₂ (λ (a b : Bool). a && not b) come left)); bound = bounded }

-- a Leave
known-leave : (h : List Entry) (sessions : List ℕ) (e : Entry) (by session : ℕ) → is_coming e ≡ false → is_leaving session e ≡ (by == session) → by ≤ length h → Known h sessions session
    → Known (h ++ e ∷ []) (filter (λ (k : ℕ). not (k == by)) sessions) session
known-leave h sessions e by session none leaves within k = at (cases_eq by session)
  where
    at : (by ≡ session) ⊎ (by ≡ session → ⊥) → Known (h ++ e ∷ []) (filter (λ (k : ℕ). not (k == by)) sessions) session
    at (inl same) =
        let hit : is_leaving session e ≡ true = leaves ∙ eq-eqb by session same in
        let left : has_left (h ++ e ∷ []) session ≡ true = any-snoc (is_leaving session) h e ∙ (ap (λ (b : Bool). has_left h session || b) hit ∙ or-true (has_left h session)) in
        record {
          there = subst (λ (k : ℕ). is_among (filter (λ (n : ℕ). not (n == k)) sessions) session ≡ false) (sym same) (none-left session sessions) ∙ sym (rw left (and-false (has_come (h ++ e ∷ []) session)));
          bound = λ l. let long = longer h e in omega (arith, same, within, long);
        }
      where
        or-true : (b : Bool) → (b || true) ≡ true
        or-true true = refl
        or-true false = refl
    at (inr other) =
        let kept = known-kept h sessions e session none (leaves ∙ ne_eqb by session other) k in
        record { there = any-filtered session by sessions other ∙ kept.there; bound = kept.bound }

-- neither an Enter nor a Leave
record IsPlain (session : ℕ) (ask : Ask) : Type 0 where
  comes : is_enter ask ≡ false
  stays : is_leave_of session ask ≡ false

plain-quiet : (session : ℕ) (s : Standing) (ask : Ask) (by : ℕ) (reply : Reply) → IsQuiet s ask by reply → IsPlain session ask
plain-quiet session s ask by reply (refused_open at name tx rx extra fault can e) = record { comes = refl; stays = refl }
plain-quiet session s ask by reply _ = record { comes = refl; stays = refl }

plain-receives : (session : ℕ) (ask : Ask) (at : PortId) (back : List ℕ) → Receives ask at back → IsPlain session ask
plain-receives session ask at back (by_sync at' back') = record { comes = refl; stays = refl }
plain-receives session ask at back (by_get at' back') = record { comes = refl; stays = refl }

abbrev KnownAt : List Entry → ℕ → Entry → Standing → Type 0
KnownAt h session e t = Known (h ++ e ∷ []) t.world.sessions session

known-kinds : (pool : ℕ) (h : List Entry) (session : ℕ) → Known h (world_of pool h).sessions session → EachKind (standing_of pool h) (Left (standing_of pool h) (KnownAt h session))
known-kinds pool h session k = record {
  enters = λ user fits. subst (λ (n : ℕ). Known (h ++ entry_made (Enter user) (enter_step (standing_of pool h)) ∷ []) (w.sessions ++ (n + 1) ∷ []) session) (sym (count-world_of pool h)) (known-enter h w.sessions (entry_made (Enter user) (enter_step (standing_of pool h))) session refl refl k);
  quiet = λ ask by reply q. let p = plain-quiet session (standing_of pool h) ask by reply q in known-kept h w.sessions _ session p.comes p.stays k;
  opens = λ by name tx rx extra can refusal. known-kept h w.sessions _ session refl refl k;
  sends = λ from frames port e can settled. known-kept h w.sessions _ session refl refl k;
  grants = λ origin to offer first same. known-kept h w.sessions _ session refl refl k;
  completes = λ lease lot e. known-kept h w.sessions _ session refl refl k;
  receives = λ ask at back port receives e can. let p = plain-receives session ask at back receives in known-kept h w.sessions _ session p.comes p.stays k;
  puts = λ at offered items port peer e can found. known-kept h w.sessions _ session refl refl k;
  watches = λ at target sides port found e can there none. known-kept h w.sessions _ session refl refl k;
  shuts = λ at port e settled. known-kept h w.sessions _ session refl refl k;
  finishes = λ at bufs chain port fits e can out. known-kept h w.sessions _ session refl refl k;
  leaves = λ by can.
      let n = world-numbered pool h in
      let within = among-bound 0 w.sessions w.entry_count by.0 n.sessions_rise can.found in
      let count = count-world_of pool h in
      known-leave h w.sessions _ by.0 session refl refl (omega (arith, within, count)) k;
}
  where
    w : World
    w = world_of pool h

pub there-come : ThereIsCome
there-come pool h session legal = (history-by pool (λ (h : List Entry). Known h (world_of pool h).sessions session) keeps (record { there = none session; bound = λ l. absurd cc }) h legal).there
  where
    none : (n : ℕ) → false ≡ (has_come [] n && not (has_left [] n))
    none zero = refl
    none (suc n) = refl

    keeps : (h : List Entry) (e : Entry) → IsLegal pool h → Follows (standing_of pool h) e → Known h (world_of pool h).sessions session → Known (h ++ e ∷ []) (world_of pool (h ++ e ∷ [])).sessions session
    keeps h e legal follows k =
        subst (λ (t : Standing). Known (h ++ e ∷ []) t.world.sessions session) (sym (standing-push pool h e))
        (follows-by (standing_of pool h) (KnownAt h session) e follows (known-kinds pool h session k))
