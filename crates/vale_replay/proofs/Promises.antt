-- What users promise, in longer histories and unit after unit.
use Rattle.std.proofs.Common.{ℕ, ◌≤◌, ◌≡◌, List, [], ◌∷◌, take, refl, sym, subst, arith}
use Rattle.std.specs.Prelude.{◌↔◌}
use Rattle.std.specs.List.{AllByRecursion}
use Rattle.std.proofs.lemmas.List.{take-take}
use Rattle.vale_entry.specs.declared.entry.Entry.{Entry}
use Rattle.vale_replay.specs.Machine.{Machine}
use Rattle.vale_replay.specs.Replay.{Cast, UnitShare, ScriptUnit, EachShare, PlaysUser, NeedsNoCall, last_behind, last_of, starting}
use Rattle.vale_replay.specs.Joined.{PlaysShare, IsWithin, TurnsOfUnit, TurnsOfUnits, TurnsReadToTheirLast, TurnsGoOn}
use Rattle.vale_replay.proofs.Turns.{reads-to-last}
use Rattle.vale_replay.proofs.Joins.{units-forward}

plays-read : (pool : ℕ) (h : List Entry) (count : ℕ) (before : Machine) (ns : List ℕ) (after : Machine)
    → last_of ns ≤ count → PlaysUser pool h before ns after ↔ PlaysUser pool (take count h) before ns after
plays-read pool h count before ns after within = (cut, back)
  where
    same : take (last_of ns) (take count h) ≡ take (last_of ns) h
    same = take-take (last_of ns) count h within

    cut : PlaysUser pool h before ns after → PlaysUser pool (take count h) before ns after
    cut plays = record {
      replays = (reads-to-last pool h count before ns after within).0 plays.replays;
      no_task = plays.no_task;
      ended = subst (λ (es : List Entry). NeedsNoCall pool es after) (sym same) plays.ended;
    }

    back : PlaysUser pool (take count h) before ns after → PlaysUser pool h before ns after
    back plays = record {
      replays = (reads-to-last pool h count before ns after within).1 plays.replays;
      no_task = plays.no_task;
      ended = subst (λ (es : List Entry). NeedsNoCall pool es after) same plays.ended;
    }

within-last : (first last low : ℕ) (ns : List ℕ) → low ≤ last
    → AllByRecursion (IsWithin first last) ns → last_behind low ns ≤ last
within-last first last low [] up inside = up
within-last first last low (n ∷ ns) up inside = within-last first last n ns inside.0.1 inside.1

shares-map : (R S : UnitShare → Machine → List ℕ → Machine → Type 0) (cast : Cast) (unit : ScriptUnit) (first last : ℕ) (lists : List (List ℕ)) (afters : List Machine)
    → ((share : UnitShare) (before : Machine) (ns : List ℕ) (after : Machine) → last_of ns ≤ last → R share before ns after → S share before ns after)
    → AllByRecursion (AllByRecursion (IsWithin first last)) lists → EachShare R cast unit lists afters → EachShare S cast unit lists afters
shares-map R S cast [] first last [] [] f inside each = tt
shares-map R S cast (share ∷ shares) first last (ns ∷ lists) (a ∷ afters) f inside each =
    ((each.0.0, each.0.1, f share each.0.0 ns a (within-last first last 0 ns (omega arith) inside.0) each.0.2), shares-map R S cast shares first last lists afters f inside.1 each.1)
shares-map R S cast _ first last _ _ f inside each = absurd each

unit-read : (pool : ℕ) (h k : List Entry) (cast : Cast) (first : ℕ) (unit : ScriptUnit) (lists : List (List ℕ)) (next : Cast) (last : ℕ)
    → ((before : Machine) (ns : List ℕ) (after : Machine) → last_of ns ≤ last → PlaysUser pool h before ns after → PlaysUser pool k before ns after)
    → TurnsOfUnit pool h cast first unit lists next last → TurnsOfUnit pool k cast first unit lists next last
unit-read pool h k cast first unit lists next last f turns = record {
  afters = turns.afters;
  forward = turns.forward;
  plays = shares-map (PlaysShare pool h) (PlaysShare pool k) cast unit first last lists turns.afters (λ share before ns after within plays. f (starting share before) ns after within plays) turns.inside turns.plays;
  inside = turns.inside;
  others = turns.others;
}

units-read : (pool : ℕ) (h k : List Entry) (cast : Cast) (first : ℕ) (units : List ScriptUnit) (lists : List (List (List ℕ))) (next : Cast) (last : ℕ)
    → ((before : Machine) (ns : List ℕ) (after : Machine) → last_of ns ≤ last → PlaysUser pool h before ns after → PlaysUser pool k before ns after)
    → TurnsOfUnits pool h cast first units lists next last → TurnsOfUnits pool k cast first units lists next last
units-read pool h k cast first [] [] next last f turns = turns
units-read pool h k cast first (unit ∷ units) (lists ∷ more) next last f turns =
    let up = units-forward pool h turns.0 turns.1.0 units more next last turns.1.1.1 in
    (turns.0, (turns.1.0, (unit-read pool h k cast first unit lists turns.0 turns.1.0 (λ before ns after within. f before ns after (omega (arith, within, up))) turns.1.1.0, units-read pool h k turns.0 turns.1.0 units more next last f turns.1.1.1)))
units-read pool h k cast first [] (lists ∷ more) next last f turns = absurd turns
units-read pool h k cast first (unit ∷ units) [] next last f turns = absurd turns

pub turns-read : TurnsReadToTheirLast
turns-read pool h count cast first units lists next last within = (
  units-read pool h (take count h) cast first units lists next last (λ before ns after up. (plays-read pool h count before ns after (omega (arith, up, within))).0),
  units-read pool (take count h) h cast first units lists next last (λ before ns after up. (plays-read pool h count before ns after (omega (arith, up, within))).1),
)

pub turns-go_on : TurnsGoOn
turns-go_on pool h cast first [] [] between number unit unit_lists next last turns one =
    (next, (last, (subst (λ (n : ℕ). TurnsOfUnit pool h cast n unit unit_lists next last) turns.1 (subst (λ (c : Cast). TurnsOfUnit pool h c number unit unit_lists next last) turns.0 one), (refl, refl))))
turns-go_on pool h cast first (u ∷ units) (lists ∷ more) between number unit unit_lists next last turns one =
    (turns.0, (turns.1.0, (turns.1.1.0, turns-go_on pool h turns.0 turns.1.0 units more between number unit unit_lists next last turns.1.1.1 one)))
turns-go_on pool h cast first [] (lists ∷ more) between number unit unit_lists next last turns one = absurd turns
turns-go_on pool h cast first (u ∷ units) [] between number unit unit_lists next last turns one = absurd turns
