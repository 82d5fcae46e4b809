-- Where each session that came has left, none is there.
use Rattle.std.proofs.Common.{ℕ, zero, suc, ◌+◌, ◌-◌, ◌<◌, ◌≤◌, ◌≡◌, Bool, true, false, not, ◌&&◌, ◌||◌, List, [], ◌∷◌, length, sum_by, slice_get, Some, refl, sym, ◌∙◌, ap, subst, arith}
use Rattle.std.specs.List.{list_any}
use Rattle.std.proofs.lemmas.Bool.{eq-eqb}
use Rattle.nm_turn.specs.Numbered.{Stands, numbered}
use Rattle.nm_turn.proofs.Prefixes.{numbered-Stands}
use Rattle.vale_entry.specs.declared.entry.Entry.{Entry}
use Rattle.vale_entry.specs.World.{World, Port, is_session, buffers_of}
use Rattle.vale_entry.specs.Legal.{IsLegal, is_met, world_of}
use Rattle.vale_entry.proofs.Numbered.{world-numbered}
use Rattle.vale_entry.proofs.HistoryLaws.{history-stands}
use Rattle.vale_own.specs.There.{is_coming, is_leave_of, is_leaving, has_come, has_left}
use Rattle.vale_own.proofs.Coming.{there-come}
use Rattle.vale_replay.proofs.Leaving.{no-members, no-ports}
use Rattle.vale_replay.proofs.Comers.{met-within}
use Rattle.vale_act.specs.Leaving.{AllLeave, EntersOnlyAt, HasMadeLeave}

-- ---- a session that is there has come and has not left

pub record Came (h : List Entry) (session : ℕ) : Type 0 where
  pub low : 0 < session
  pub high : session ≤ length h
  pub comes : (entry : Entry) → slice_get h (session - 1) ≡ Some entry → is_coming entry ≡ true

came-by : (h : List Entry) (session : ℕ) → has_come h session ≡ true → Came h session
came-by h zero e = absurd cc
came-by h (suc n) e =
    let less : suc n - 1 ≡ n = omega arith in
    record {
      low = omega arith;
      high = met-within h n e;
      comes = λ entry at. ap (is_met is_coming) (sym at ∙ ap (slice_get h) less) ∙ e;
    }

first-true : (a b : Bool) → (a && b) ≡ true → a ≡ true
first-true true b e = refl
first-true false b e = absurd cc

second-true : (a b : Bool) → (a && not b) ≡ true → b ≡ false
second-true true true e = absurd cc
second-true true false e = refl
second-true false b e = absurd cc

pub came : (pool : ℕ) (h : List Entry) (session : ℕ) → IsLegal pool h → is_session (world_of pool h) session ≡ true → Came h session
came pool h session legal there =
    came-by h session (first-true (has_come h session) (not (has_left h session)) (sym (there-come pool h session legal) ∙ there))

stayed : (pool : ℕ) (h : List Entry) (session : ℕ) → IsLegal pool h → is_session (world_of pool h) session ≡ true → has_left h session ≡ false
stayed pool h session legal there =
    second-true (has_come h session) (has_left h session) (sym (there-come pool h session legal) ∙ there)

-- ---- so none is there where each has left

any-at : (p : Entry → Bool) (h : List Entry) (k : ℕ) (e : Entry) → slice_get h k ≡ Some e → p e ≡ true → list_any p h ≡ true
any-at p [] k e at is = absurd cc
any-at p (x ∷ h) zero e at is =
    let same : x ≡ e = cc in
    ap (λ (y : Entry). p y || list_any p h) same ∙ ap (λ (b : Bool). b || list_any p h) is
any-at p (x ∷ h) (suc k) e at is = or-true (p x) (list_any p h) (any-at p h k e at is)
  where
    or-true : (a b : Bool) → b ≡ true → (a || b) ≡ true
    or-true true b e = refl
    or-true false b e = e

pub all-leave : AllLeave
all-leave pool h main legal all each = record { sessions = none; free = free }
  where
    w : World
    w = world_of pool h

    own : (x : ℕ) → Came h x → Stands x main.mine
    own x c =
        let low = c.low in
        let high = c.high in
        let at : 1 + (x - 1) ≡ x = omega (arith, low) in
        let stands : Stands (1 + (x - 1)) (numbered 1 h) = numbered-Stands 1 (x - 1) h (omega (arith, low, high)) in
        subst (λ (mine : List (ℕ × Entry)). Stands x mine) (sym all.all_mine) (subst (λ (k : ℕ). Stands k (numbered 1 h)) at stands)

    -- what the pass has seen stands in the history
    read : (at : ℕ) (e : Entry) → slice_get main.seen at ≡ Some e → slice_get h at ≡ Some e
    read at e found = ap (λ (l : List Entry). slice_get l at) (sym all.all_seen) ∙ found

    gone : (x : ℕ) → is_session w x ≡ true → ⊥
    gone x there =
        let c = came pool h x legal there in
        let e : EntersOnlyAt (HasMadeLeave main) main x = each x (own x c) in
        let leave : HasMadeLeave main x = e.enters (c.comes e.entry (read (x - 1) e.entry e.there)) in
        let hit : is_leaving x leave.entry ≡ true = ap (is_leave_of x) leave.leaves ∙ eq-eqb x x refl in
        let clash : true ≡ false = sym (any-at (is_leaving x) h (leave.number - 1) leave.entry (read (leave.number - 1) leave.entry leave.there) hit) ∙ stayed pool h x legal there in
        absurd cc

    none : w.sessions ≡ []
    none = no-members w.sessions gone

    ports : w.ports ≡ []
    ports = no-ports w.sessions w.ports none (world-numbered pool h).ports_owned

    free : w.pool - sum_by buffers_of w.ports ≡ pool
    free =
        let zero-sum : sum_by buffers_of w.ports ≡ 0 = ap (λ (ps : List Port). sum_by buffers_of ps) ports in
        let same : w.pool ≡ pool = (history-stands pool h legal).pool_is in
        omega (arith, zero-sum, same)
