-- What a Put makes is what its entry records: the items that were taken are the first of those
-- offered.
use Rattle.std.proofs.Common.{ℕ, zero, suc, ◌≡◌, Bool, true, false, cond, not, min, ◌&&◌, ◌||◌, ◌==◌, nat_le, List, [], ◌∷◌, length, take, Option, Some, None, refl, sym, ◌∙◌, ap, arith}
use Rattle.std.specs.List.{list_all}
use Rattle.std.proofs.lemmas.Bool.{and_parts, eq-eqb, not-true}
use Rattle.std.proofs.lemmas.List.{length-take-le}
use Rattle.nm_types.specs.Limits.{most_batch}
use Rattle.nm_types.specs.Names.{is_pipe_name}
use Rattle.vale_entry.specs.declared.entry.Item.{Item}
use Rattle.vale_entry.specs.World.{Port, open_port, space_of, is_settled}
use Rattle.vale_entry.specs.Holdings.{contains, are_distinct, holds_all, buffers_of_session}
use Rattle.vale_entry.specs.Pipe.{peer_of, taken_count, indices_of, is_pipe_item}
use Rattle.vale_entry.specs.Legal.{Standing, Outcome, kept_items, can_offer, can_put, can_keep, made_at, kept_step_at, put_step_at, put_step_by}
use Rattle.vale_entry.specs.Laws.{PutsAreKept}

all-take :
    {X : Type 0} (test : X → Bool) (n : ℕ) (xs : List X) → list_all test xs ≡ true
    → list_all test (take n xs) ≡ true
all-take test zero xs all = refl
all-take test (suc n) [] all = refl
all-take test (suc n) (x ∷ xs) all =
    let parts = and_parts (test x) (list_all test xs) all in
    rw parts.0 (all-take test n xs parts.1)

none_by : (a b c : Bool) → (a || b) ≡ false → (b ≡ false → c ≡ false) → (a || c) ≡ false
none_by true b c e later = absurd cc
none_by false b c e later = later e

none-take : (b n : ℕ) (bs : List ℕ) → contains b bs ≡ false → contains b (take n bs) ≡ false
none-take b zero bs e = refl
none-take b (suc n) [] e = refl
none-take b (suc n) (c ∷ bs) e =
    none_by (c == b) (contains b bs) (contains b (take n bs)) e (none-take b n bs)

indices-take : (n : ℕ) (items : List Item) → indices_of (take n items) ≡ take n (indices_of items)
indices-take zero items = refl
indices-take (suc n) [] = refl
indices-take (suc n) (item ∷ items) = let rest = indices-take n items in cc

distinct-take : (n : ℕ) (bs : List ℕ) → are_distinct bs ≡ true → are_distinct (take n bs) ≡ true
distinct-take zero bs e = refl
distinct-take (suc n) [] e = refl
distinct-take (suc n) (b ∷ bs) e =
    let parts = and_parts (not (contains b bs)) (are_distinct bs) e in
    let other : contains b (take n bs) ≡ false =
    none-take b n bs (not-true (contains b bs) parts.0) in
    rw other (distinct-take n bs parts.1)

length-taken :
    (found : Option Port) (offered : List Item)
    → length (take (taken_count found (length offered)) offered) ≡ taken_count found
    (length offered)
length-taken None offered = refl
length-taken (Some peer) offered =
    length-take-le (min (length offered) (space_of peer)) offered (omega arith)

offer-take :
    (s : Standing) (port : Port) (n : ℕ) (offered : List Item) → can_offer s offered port ≡ true
    → can_offer s (take n offered) port ≡ true
offer-take s port n offered can =
    let pipe =
    and_parts (is_pipe_name port.name)
    (is_settled s.world port.session
    && (list_all is_pipe_item offered && holds_all s.holdings port.session (indices_of offered)))
    can in
    let settled =
    and_parts (is_settled s.world port.session)
    (list_all is_pipe_item offered && holds_all s.holdings port.session (indices_of offered)) pipe.1
    in
    let sound =
    and_parts (list_all is_pipe_item offered)
    (holds_all s.holdings port.session (indices_of offered)) settled.1 in
    let test : ℕ → Bool = λ b. contains b (buffers_of_session s.holdings.sessions port.session) in
    let held =
    and_parts (list_all test (indices_of offered)) (are_distinct (indices_of offered)) sound.1 in
    let items : list_all is_pipe_item (take n offered) ≡ true =
    all-take is_pipe_item n offered sound.0 in
    let all : list_all test (take n (indices_of offered)) ≡ true =
    all-take test n (indices_of offered) held.0 in
    let apart : are_distinct (take n (indices_of offered)) ≡ true =
    distinct-take n (indices_of offered) held.1 in
    rw (pipe.0, settled.0, items, indices-take n offered, all) apart

keep-take : (s : Standing) (port : Port) (offered : List Item) → can_put s offered port ≡ true
    → can_keep s (length offered)
    (take (taken_count (peer_of s.world.ports port) (length offered)) offered) port
    ≡ true
keep-take s port offered can =
    let parts = and_parts (can_offer s offered port) (nat_le (length offered) most_batch) can in
    let n : ℕ = taken_count (peer_of s.world.ports port) (length offered) in
    let front = offer-take s port n offered parts.0 in
    let count : (length (take n offered) == n) ≡ true =
    eq-eqb (length (take n offered)) n (length-taken (peer_of s.world.ports port) offered) in
    rw (front, parts.1) count

-- the reply keeps what was taken
kept-put :
    (s : Standing) (port : Port) (items : List Item) (found : Option Port)
    → (found ≡ None → items ≡ []) → kept_items (put_step_by s items port found).reply ≡ items
kept-put s port items None none = sym (none refl)
kept-put s port items (Some peer) none = refl

nothing-taken :
    (found : Option Port) (offered : List Item) → found ≡ None
    → take (taken_count found (length offered)) offered ≡ []
nothing-taken None offered e = refl
nothing-taken (Some peer) offered e = absurd cc

kept-at :
    (s : Standing) (offered : List Item) (made : Outcome) (found : Option Port)
    → made_at (can_put s offered) (put_step_at s offered) found ≡ Some made
    → kept_step_at s (length offered) (kept_items made.reply) found ≡ Some made
kept-at s offered made None e = absurd cc
kept-at s offered made (Some port) e = by_can (can_put s offered port) refl e
  where
    taken : List Item
    taken = take (taken_count (peer_of s.world.ports port) (length offered)) offered

    by_can :
        (b : Bool) → can_put s offered port ≡ b
        → cond b (Some (put_step_at s offered port)) None ≡ Some made
        → kept_step_at s (length offered) (kept_items made.reply) (Some port) ≡ Some made
    by_can false t e = absurd cc
    by_can true t e =
        let same : put_step_at s offered port ≡ made = cc in
        let items : kept_items made.reply ≡ taken =
        ap (λ (m : Outcome). kept_items m.reply) (sym same) ∙ kept-put s port taken
        (peer_of s.world.ports port) (nothing-taken (peer_of s.world.ports port) offered) in
        let keeps : can_keep s (length offered) taken port ≡ true = keep-take s port offered t in
        rw (items, keeps) (ap (λ (m : Outcome). Some m) same)

pub puts-kept : PutsAreKept
puts-kept s port offered made e = kept-at s offered made (open_port s.world.ports port.0) e
