-- Before the first unit nobody has come.
use Rattle.std.proofs.Common.{◌≡◌, ℕ, suc, ◌+◌, ◌-◌, ◌*◌, ◌^◌, max, List, [], ◌∷◌, ◌++◌, length, replicate, slice_get, Some, refl, sym, ap, ◌∙◌, subst, arith}
use Rattle.std.specs.Prelude.{flat_map}
use Rattle.nm_turn.specs.Numbered.{numbered}
use Rattle.nm_turn.specs.declared.view.Share.{Share}
use Rattle.nm_turn.specs.Rule.{part_of}
use Rattle.nm_turn.specs.Shares.{IsWhole, AddUp}
use Rattle.vale_entry.specs.declared.entry.Entry.{Entry}
use Rattle.vale_fabric.specs.Fabrics.{Knowing}
use Rattle.vale_script.specs.Script.{Program}
use Rattle.vale_replay.specs.Replay.{user_count}
use Rattle.vale_replay.specs.Tasks.{Captures}
use Rattle.vale_act.specs.Units.{HaveWhole, HavePlayed, knows_at}
use Rattle.vale_act.specs.Seats.{AllAre, AreBetween, AreNew, IsHeld, IsSeated}
use Rattle.vale_act.specs.declared.seat.Seat.{Seat}
use Rattle.vale_act.specs.declared.seat.Seat.TheVariants.{Away}
use Rattle.vale_act.proofs.UnitTurns.{play-begins, away-knows}

whole-alone : (p : Share) → IsWhole p → AddUp (p ∷ [])
whole-alone p is =
    let d : ℕ = max p.depth 0 in
    let deep : d ≡ p.depth = omega arith in
    let none : d - p.depth ≡ 0 = omega (arith, deep) in
    let one : p.share * 2 ^ (d - p.depth) ≡ p.share * 1 = ap (λ (n : ℕ). p.share * 2 ^ n) none in
    let same : 2 ^ d ≡ 2 ^ p.depth = ap (λ (n : ℕ). 2 ^ n) deep in
    let whole : p.share ≡ 2 ^ p.depth = is in
    omega (arith, one, same, whole)

all-away : (seats : List Seat) → AllAre (λ place seat. seat ≡ Away) seats → seats ≡ replicate (length seats) Away
all-away [] all = refl
all-away (seat ∷ seats) all = ap (λ (s : Seat). s ∷ seats) (all 0 seat refl) ∙ ap (λ (l : List Seat). Away ∷ l) (all-away seats (λ k s at. all (suc k) s at))

pub begins-between : (program : Program) (captures : Captures) (v : Knowing) (seats : List Seat) → AreNew (user_count program) seats → IsWhole v.part → v.seen ≡ [] → v.mine ≡ [] → AreBetween program captures 0 v seats
begins-between program captures v seats new whole seen mine =
    let are : seats ≡ replicate (user_count program) Away = all-away seats new.away ∙ ap (λ (n : ℕ). replicate n Away) new.len in
    let none : flat_map knows_at seats ≡ [] = ap (λ (l : List Seat). flat_map knows_at l) are ∙ away-knows (user_count program) in
    record {
      seated = λ place seat at. subst (IsSeated (place + 1)) (sym (new.away place seat at)) tt;
      count = new.len;
      held = record {
        whole = subst (λ (l : List Knowing). HaveWhole (v ∷ l)) (sym none) (whole-alone v.part whole);
        all = λ is. mine ∙ ap (λ (l : List Entry). numbered 1 l) (sym seen);
      };
      played = subst (λ (l : List Seat). HavePlayed program captures 0 v l) (sym are) (play-begins program captures v seen mine);
    }
