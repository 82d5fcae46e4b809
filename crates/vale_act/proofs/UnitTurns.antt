-- What the users of a script have played, unit after unit, and that it is all of the script at its
-- end.
use Rattle.std.proofs.Common.{ℕ, zero, suc, ◌+◌, ◌≡◌, List, [], ◌∷◌, ◌++◌, length, map, flat_map, take, refl, sym, ◌∙◌, ap, subst, arith, le_refl}
use Rattle.std.specs.Prelude.{replicate}
use Rattle.std.specs.List.{range_with_len}
use Rattle.std.proofs.lemmas.List.{take_all}
use mathlib.Core.List.{IsPrefix}
use Rattle.nm_turn.specs.Numbered.{numbered, numbers}
use Rattle.nm_turn.proofs.Prefixes.{prefix_length}
use Rattle.nm_turn.proofs.Joining.{numbers-all}
use Rattle.vale_entry.specs.declared.entry.Entry.{Entry}
use Rattle.vale_fabric.specs.Fabrics.{Knowing}
use Rattle.vale_fabric.proofs.LeaseFilling.{taken-next}
use Rattle.vale_replay.specs.Machine.{Machine, new_machine}
use Rattle.vale_replay.specs.Replay.{Cast, ScriptUnit, EachShare, AreSplit, cast_after, cast_of, times_among, units_of, user_count}
use Rattle.vale_replay.specs.Joined.{PlaysShare, TurnsOfUnit, TurnsOfUnits, lists_in}
use Rattle.vale_replay.proofs.Numbers.{range-split}
use Rattle.vale_replay.proofs.Joins.{among-append, joins-users}
use Rattle.vale_replay.proofs.Promises.{turns-read, turns-go_on}
use Rattle.vale_act.specs.declared.seat.Seat.{Seat}
use Rattle.vale_act.specs.declared.seat.Seat.TheVariants.{Away}
use Rattle.vale_act.specs.Units.{AreUsersFrom, PlayBegins, UnitIsPlayed, PlayIsWhole, knows_at, all_know, times_made}
use Rattle.vale_player.proofs.Working.{begins-cut}

-- where no user's session is there, what was made is the main pass's own
pub alone-made : (number : ℕ) (main : Knowing) (seats : List Seat) → flat_map knows_at seats ≡ [] → times_made number (all_know main seats) ≡ times_among number (numbers main.mine ∷ [])
alone-made number main seats none = ap (λ (vs : List Knowing). times_made number (main ∷ vs)) none

-- ---- the beginning

away-users : (pool number count : ℕ) → AreUsersFrom pool number (replicate count Away) (map (new_machine pool) (range_with_len number count))
away-users pool number zero = tt
away-users pool number (suc count) = (refl, away-users pool (number + 1) count)

pub away-knows : (count : ℕ) → flat_map knows_at (replicate count Away) ≡ []
away-knows zero = refl
away-knows (suc count) = away-knows count

pub play-begins : PlayBegins
play-begins program captures main seen mine = record {
  cast = cast_of program;
  lists = [];
  turns = (refl, ap length seen);
  users_are = away-users program.pool 1 (user_count program);
  made = λ number.
      alone-made number main (replicate (user_count program) Away) (away-knows (user_count program))
      ∙ ap (λ (l : List (ℕ × Entry)). times_among number (numbers l ∷ [])) mine;
}

-- ---- a unit more

-- units that were played are read in every longer history
pub turns-longer : (pool : ℕ) (h k : List Entry) (cast : Cast) (units : List ScriptUnit) (lists : List (List (List ℕ))) (next : Cast) → IsPrefix h k
    → TurnsOfUnits pool h cast 0 units lists next (length h) → TurnsOfUnits pool k cast 0 units lists next (length h)
turns-longer pool h k cast units lists next begins turns =
    (turns-read pool k (length h) cast 0 units lists next (length h) (le_refl (length h))).1
    (subst (λ (es : List Entry). TurnsOfUnits pool es cast 0 units lists next (length h)) (sym (begins-cut h k begins)) turns)

among-then : (number : ℕ) (units : List (List (List ℕ))) (lists : List (List ℕ)) → times_among number (lists_in (units ++ lists ∷ [])) ≡ times_among number (lists_in units) + times_among number lists
among-then number [] lists = let all = among-append number lists [] in omega (arith, all)
among-then number (first ∷ units) lists =
    let more = among-append number first (lists_in (units ++ lists ∷ [])) in
    let some = among-append number first (lists_in units) in
    let rest = among-then number units lists in
    omega (arith, more, some, rest)

pub unit-played : UnitIsPlayed
unit-played program captures done unit main next before after there played plays = record {
  cast = cast;
  lists = played.lists ++ plays.lists ∷ [];
  turns = subst (λ (units : List ScriptUnit). TurnsOfUnits program.pool next.seen (cast_of program) 0 units (played.lists ++ plays.lists ∷ []) cast (length next.seen)) (sym (taken-next (units_of program captures) done unit there))
      (turns-go_on program.pool next.seen (cast_of program) 0 (take done (units_of program captures)) played.lists played.cast (length main.seen) unit plays.lists cast (length next.seen)
      (turns-longer program.pool main.seen next.seen (cast_of program) (take done (units_of program captures)) played.lists played.cast plays.begins played.turns) turn);
  users_are = works.1.1;
  made = λ number.
      plays.made number ∙ ap (λ (k : ℕ). k + times_among number plays.lists) (played.made number) ∙ sym (among-then number played.lists plays.lists);
}
  where
    works : (afters : List Machine) × (EachShare (PlaysShare program.pool next.seen) played.cast unit plays.lists afters × AreUsersFrom program.pool 1 after (cast_after unit afters played.cast).users)
    works = plays.plays played.cast played.users_are

    cast : Cast
    cast = cast_after unit works.0 played.cast

    turn : TurnsOfUnit program.pool next.seen played.cast (length main.seen) unit plays.lists cast (length next.seen)
    turn = record { afters = works.0; forward = prefix_length main.seen next.seen plays.begins; plays = works.1.0; inside = plays.inside; others = refl }

-- ---- the end

-- a pass that made all that it has seen made each number once
pub whole-split : (mine : List (ℕ × Entry)) (seen : List Entry) → mine ≡ numbered 1 seen → AreSplit 0 (length seen) (numbers mine ∷ [])
whole-split mine seen whole =
    subst (λ (ns : List ℕ). AreSplit 0 (length seen) (ns ∷ [])) (sym (ap (λ (l : List (ℕ × Entry)). numbers l) whole ∙ numbers-all 1 seen))
    (subst (λ (last : ℕ). AreSplit 0 last (range_with_len 1 (length seen) ∷ [])) all (range-split 0 (length seen)))
  where
    all : 0 + length seen ≡ length seen
    all = omega arith

pub play-whole : PlayIsWhole
play-whole program captures main seats files played none whole =
    (played.cast, (joins-users program captures main.seen played.lists played.cast (record { files = files; turns = turns }) split, played.users_are))
  where
    units : List ScriptUnit
    units = units_of program captures

    turns : TurnsOfUnits program.pool main.seen (cast_of program) 0 units played.lists played.cast (length main.seen)
    turns = subst (λ (us : List ScriptUnit). TurnsOfUnits program.pool main.seen (cast_of program) 0 us played.lists played.cast (length main.seen)) (take_all (length units) units (le_refl (length units))) played.turns

    split : AreSplit 0 (length main.seen) (lists_in played.lists)
    split number = sym (played.made number) ∙ (alone-made number main seats none ∙ whole-split main.mine main.seen whole number)
