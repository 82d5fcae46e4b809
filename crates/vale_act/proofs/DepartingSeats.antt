-- The main pass and the seats of all users, and what each of them keeps.
use Rattle.std.proofs.Common.{ℕ, zero, suc, ◌≡◌, List, [], ◌∷◌, length, slice_get, slice_set, Some, refl, sym, ap, subst, arith}
use Rattle.std.specs.Prelude.{replicate}
use mathlib.Core.List.{IsPrefix}
use Rattle.nm_turn.specs.Numbered.{merged}
use Rattle.nm_turn.specs.Passes.{joined_view, kept_view}
use Rattle.nm_turn.proofs.Prefixes.{prefix_self}
use Rattle.vale_fabric.specs.Fabrics.{Knowing}
use Rattle.vale_act.specs.declared.seat.Seat.{Seat}
use Rattle.vale_act.specs.declared.seat.Seat.TheVariants.{Away}
use Rattle.vale_player.specs.Players.{PlayerState}
use Rattle.vale_act.specs.Leaving.{BeginsToLeave, ComesAloneAt, ForkedComesAlone, LearnerComesAlone, MeetingComesAlone, OnlyComes, SeatCanLeave, SeatsCanLeave}
use Rattle.vale_act.proofs.DepartingPasses.{learner-once, meeting-once, nobody-came}

-- ---- one seat

-- the same user, with another pass
as-same : (p q : PlayerState) (knows : Knowing) → q ≡ record p { session = record p.session { knows = knows } } → OnlyComes p.session.id q.session.knows → OnlyComes q.session.id q.session.knows
as-same p q knows same only = subst (λ (n : ℕ). OnlyComes n q.session.knows) (sym (ap (λ (x : PlayerState). x.session.id) same)) only

pub learner-alone : LearnerComesAlone
learner-alone p q same mine begins only =
    as-same p q q.session.knows same (learner-once p.session.id p.session.knows q.session.knows mine begins only)

pub forked-alone : ForkedComesAlone
forked-alone p q kept only =
    let mine : q.session.knows.mine ≡ p.session.knows.mine = ap (λ (x : PlayerState). x.session.knows.mine) kept in
    let seen : q.session.knows.seen ≡ p.session.knows.seen = ap (λ (x : PlayerState). x.session.knows.seen) kept in
    as-same p q (kept_view p.session.knows) kept
    (learner-once p.session.id p.session.knows q.session.knows mine (subst (IsPrefix p.session.knows.seen) (sym seen) (prefix_self p.session.knows.seen)) only)

pub meeting-alone : MeetingComesAlone
meeting-alone p q other joined both none only =
    let mine : q.session.knows.mine ≡ merged p.session.knows.mine other.mine = ap (λ (x : PlayerState). x.session.knows.mine) joined in
    as-same p q (joined_view p.session.knows other) joined (meeting-once p.session.id p.session.knows other q.session.knows none mine both.0.begins only)

-- ---- all seats

away-alone : (count place : ℕ) (seat : Seat) → slice_get (replicate count Away) place ≡ Some seat → ComesAloneAt seat
away-alone zero place seat at = absurd cc
away-alone (suc count) zero seat at = let same : Away ≡ seat = cc in subst ComesAloneAt same tt
away-alone (suc count) (suc place) seat at = away-alone count place seat at

pub begins-leaving : BeginsToLeave
begins-leaving main count none = record { each = nobody-came main none; alone = away-alone count }

set-alone : (seats : List Seat) (place : ℕ) (after : Seat) → ComesAloneAt after → ((k : ℕ) (seat : Seat) → slice_get seats k ≡ Some seat → ComesAloneAt seat)
    → (k : ℕ) (seat : Seat) → slice_get (slice_set seats place after) k ≡ Some seat → ComesAloneAt seat
set-alone [] place after new old k seat at = absurd cc
set-alone (x ∷ seats) zero after new old zero seat at = let same : after ≡ seat = cc in subst ComesAloneAt same new
set-alone (x ∷ seats) zero after new old (suc k) seat at = old (suc k) seat at
set-alone (x ∷ seats) (suc place) after new old zero seat at = old 0 seat at
set-alone (x ∷ seats) (suc place) after new old (suc k) seat at = set-alone seats place after new (λ j s there. old (suc j) s there) k seat at

pub seat-leaves : SeatCanLeave
seat-leaves main next seats place after each new can = record { each = each; alone = set-alone seats place after new can.alone }

-- where there is a seat afterwards there was one before
seat-before : (befores afters : List Seat) (place : ℕ) (after : Seat) → length afters ≡ length befores → slice_get afters place ≡ Some after → (before : Seat) × (slice_get befores place ≡ Some before)
seat-before befores [] place after len at = absurd cc
seat-before [] (y ∷ afters) place after len at = absurd (omega (arith, len))
seat-before (x ∷ befores) (y ∷ afters) zero after len at = (x, refl)
seat-before (x ∷ befores) (y ∷ afters) (suc place) after len at = seat-before befores afters place after (omega (arith, len)) at

pub seats-leave : SeatsCanLeave
seats-leave main next befores afters len each keeps can = record { each = each; alone = alone }
  where
    alone : (place : ℕ) (seat : Seat) → slice_get afters place ≡ Some seat → ComesAloneAt seat
    alone place seat at =
        let old = seat-before befores afters place seat len at in
        keeps place old.0 seat old.1 at (can.alone place old.0 old.1)
