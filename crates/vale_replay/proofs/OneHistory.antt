-- The users of a script without blocks are machines, so that their calls and the replies make one
-- history.
use Rattle.std.proofs.Common.{ℕ, zero, suc, ◌+◌, ◌-◌, ◌≤◌, ◌≡◌, ◌⊎◌, inl, inr, Bool, true, false, List, [], ◌∷◌, ◌++◌, length, map, take, drop, Option, Some, None, slice_get, slice_set, refl, sym, ◌∙◌, ap, subst, arith, take-append-drop}
use Rattle.std.specs.List.{range_with_len, list_any}
use Rattle.std.specs.Prelude.{◌==◌, ◌||◌}
use Rattle.std.proofs.lemmas.Bool.{eqb-true}
use Rattle.std.proofs.lemmas.List.{take_all}
use Rattle.std.proofs.lemmas.Option.{same_Some}
use Rattle.vale_entry.specs.declared.entry.Ask.{Ask}
use Rattle.vale_entry.specs.declared.entry.Entry.{Entry}
use Rattle.vale_entry.specs.Arrivals.{arrivals_of}
use Rattle.vale_entry.specs.Legal.{Standing, standing_of}
use Rattle.vale_script.specs.Script.{Program}
use Rattle.vale_replay.specs.Machine.{Machine, next_call, resting, answered}
use Rattle.vale_replay.specs.Replay.{Cast, UnitShare, ScriptUnit, TakesTurn, TakesTurns, ReplaysShare, ReplaysUnits, EachShare, ComesTo, cast_after, cast_of, entry_made, is_share_of, standing_before, starting, units_of, with_user}
use Rattle.vale_replay.specs.Laws.{HasNoBlock, PlaysOneHistory, BeginsWith, UnderWayIsBeginning, UnderWayIsOne}
use Rattle.vale_replay.proofs.Turns.{entry-same}
use Rattle.vale_replay.proofs.Units.{Alone, AloneUnits, alone_share, alone-units, alone-so_far, numbers_between, shares_in, units-alone, take-alone, unit-at}
use Rattle.vale_replay.proofs.Legal.{take-one_more}
use Rattle.vale_replay.specs.Tasks.{Captures}

abbrev call-at : ℕ → List Entry → Machine → Option Ask
call-at pool h user = next_call (standing_of pool h).world user

-- two turns from one state behind the same entries
pub record SameTurn (h k : List Entry) (first : ℕ) (after after' : Machine) : Type 0 where
  pub after_is : after ≡ after'
  pub taken : take (suc first) h ≡ take (suc first) k

turn-same : (pool : ℕ) (h k : List Entry) (first : ℕ) (m after after' : Machine)
    → take first h ≡ take first k → TakesTurn pool h m (first + 1) after
    → TakesTurn pool k m (first + 1) after' → SameTurn h k first after after'
turn-same pool h k first m after after' same one other =
    let at : first + 1 - 1 ≡ first = omega arith in
    let stands : standing_before pool h (first + 1) ≡ standing_before pool k (first + 1) =
    ap (λ n. standing_of pool (take n h)) at ∙ ap (standing_of pool) same ∙ ap (λ n. standing_of pool (take n k)) (sym at) in
    let s = standing_before pool k (first + 1) in
    let entries : one.entry ≡ other.entry = entry-same s m one.ask other.ask one.entry other.entry (ap (λ (x : Standing). next_call x.world m) (sym stands) ∙ one.asked) other.asked
    (ap (λ (x : Standing). entry_made x one.ask) (sym stands) ∙ one.made) other.made in
    let here : slice_get h first ≡ Some one.entry = ap (slice_get h) (sym at) ∙ one.there in
    let there : slice_get k first ≡ Some other.entry = ap (slice_get k) (sym at) ∙ other.there in
    record {
      after_is = one.goes_on ∙ ap (λ (x : Standing). resting (answered (first + 1) one.entry (arrivals_of x one.entry.ask one.entry.reply) m)) stands
          ∙ ap (λ (e : Entry). resting (answered (first + 1) e (arrivals_of s e.ask e.reply) m)) entries ∙ sym other.goes_on;
      taken = take-one_more h first one.entry here ∙ ap (λ (es : List Entry). es ++ one.entry ∷ []) same ∙ ap (λ (e : Entry). take first k ++ e ∷ []) entries ∙ sym (take-one_more k first other.entry there);
    }

-- Turns of one user up to where it needs no call more.

pub record SameTurns (h k : List Entry) (first count count' : ℕ) (after after' : Machine) : Type 0 where
  pub count_is : count ≡ count'
  pub after_is : after ≡ after'
  pub taken : take (first + count) h ≡ take (first + count) k

calls-apart : (pool : ℕ) (h k : List Entry) (first : ℕ) (m after : Machine)
    → take first h ≡ take first k → call-at pool (take first h) m ≡ None
    → TakesTurn pool k m (first + 1) after → ⊥
calls-apart pool h k first m after same ended turn =
    let at : first + 1 - 1 ≡ first = omega arith in
    let stands : standing_before pool k (first + 1) ≡ standing_of pool (take first h) = ap (λ n. standing_of pool (take n k)) at ∙ ap (standing_of pool) (sym same) in
    let clash : Some turn.ask ≡ None = sym turn.asked ∙ ap (λ (s : Standing). next_call s.world m) stands ∙ ended in
    absurd cc

turns-same : (pool : ℕ) (h k : List Entry) (first count count' : ℕ) (m after after' : Machine)
    → take first h ≡ take first k → TakesTurns pool h m (range_with_len (first + 1) count) after
    → TakesTurns pool k m (range_with_len (first + 1) count') after'
    → call-at pool (take (first + count) h) after ≡ None → call-at pool (take (first + count') k) after' ≡ None → SameTurns h k first count count' after after'
turns-same pool h k first zero zero m after after' same one other ended ended' =
    let at : first + 0 ≡ first = omega arith in
    record { count_is = refl; after_is = one ∙ sym other; taken = ap (λ n. take n h) at ∙ same ∙ ap (λ n. take n k) (sym at) }
turns-same pool h k first zero (suc count') m after after' same one other ended ended' =
    let at : first + 0 ≡ first = omega arith in
    absurd (calls-apart pool h k first m other.0 same (ap (λ n. call-at pool (take n h) m) (sym at) ∙ ap (call-at pool (take (first + 0) h)) (sym one) ∙ ended) other.1.0)
turns-same pool h k first (suc count) zero m after after' same one other ended ended' =
    let at : first + 0 ≡ first = omega arith in
    absurd (calls-apart pool k h first m one.0 (sym same) (ap (λ n. call-at pool (take n k) m) (sym at) ∙ ap (call-at pool (take (first + 0) k)) (sym other) ∙ ended') one.1.0)
turns-same pool h k first (suc count) (suc count') m after after' same one other ended ended' =
    let t = turn-same pool h k first m one.0 other.0 same one.1.0 other.1.0 in
    let next : suc first ≡ first + 1 = omega arith in
    let more : first + suc count ≡ first + 1 + count = omega arith in
    let more' : first + suc count' ≡ first + 1 + count' = omega arith in
    let rest = turns-same pool h k (first + 1) count count' one.0 after after' (subst (λ (n : ℕ). take n h ≡ take n k) next t.taken) one.1.1
    (subst (λ (x : Machine). TakesTurns pool k x (range_with_len (first + 1 + 1) count') after') (sym t.after_is) other.1.1)
    (subst (λ (n : ℕ). call-at pool (take n h) after ≡ None) more ended) (subst (λ (n : ℕ). call-at pool (take n k) after' ≡ None) more' ended') in
    record { count_is = ap (λ n. suc n) rest.count_is; after_is = rest.after_is; taken = subst (λ (n : ℕ). take n h ≡ take n k) (sym more) rest.taken }

-- Units.

pub record SameUnits (h k : List Entry) (next next' : Cast) (last last' : ℕ) : Type 0 where
  pub next_is : next ≡ next'
  pub last_is : last ≡ last'
  pub taken : take last h ≡ take last k

unit-same : (pool : ℕ) (h k : List Entry) (cast : Cast) (first : ℕ) (unit : UnitShare) (next next' : Cast) (last last' : ℕ)
    → take first h ≡ take first k
    → Alone pool h cast first unit next last → Alone pool k cast first unit next' last' → SameUnits h k next next' last last'
unit-same pool h k cast first unit next next' last last' same one other =
    let before : one.before ≡ other.before = same_Some one.before other.before (sym one.here ∙ other.here) in
    let up = one.forward in
    let up' = other.forward in
    let ends : first + (last - first) ≡ last = omega (arith, up) in
    let ends' : first + (last' - first) ≡ last' = omega (arith, up') in
    let t = turns-same pool h k first (last - first) (last' - first) (starting unit one.before) one.after other.after same one.turns
    (subst (λ (m : Machine). TakesTurns pool k (starting unit m) (numbers_between first last') other.after) (sym before) other.turns)
    (subst (λ (n : ℕ). call-at pool (take n h) one.after ≡ None) (sym ends) one.ended) (subst (λ (n : ℕ). call-at pool (take n k) other.after ≡ None) (sym ends') other.ended) in
    let counts = t.count_is in
    record {
      next_is = one.others ∙ ap (with_user cast unit.user) t.after_is ∙ sym other.others;
      last_is = omega (arith, ends, ends', counts);
      taken = subst (λ (n : ℕ). take n h ≡ take n k) ends t.taken;
    }

units-same : (pool : ℕ) (h k : List Entry) (cast : Cast) (first : ℕ) (units : ScriptUnit) (next next' : Cast) (last last' : ℕ)
    → take first h ≡ take first k
    → AloneUnits pool h cast first units next last → AloneUnits pool k cast first units next' last' → SameUnits h k next next' last last'
units-same pool h k cast first [] next next' last last' same one other =
    record { next_is = one.0 ∙ sym other.0; last_is = one.1 ∙ sym other.1; taken = subst (λ (n : ℕ). take n h ≡ take n k) (sym one.1) same }
units-same pool h k cast first (unit ∷ units) next next' last last' same one other =
    let u = unit-same pool h k cast first unit one.0 other.0 one.1.0 other.1.0 same one.1.1.0 other.1.1.0 in
    let back : AloneUnits pool k one.0 one.1.0 units next' last' =
    subst (λ (c : Cast). AloneUnits pool k c one.1.0 units next' last') (sym u.next_is) (subst (λ (n : ℕ). AloneUnits pool k other.0 n units next' last') (sym u.last_is) other.1.1.1) in
    units-same pool h k one.0 one.1.0 units next next' last last' u.taken one.1.1.1 back

-- the units of a history that plays a script without blocks
script-units : (program : Program) (captures : Captures) (h : List Entry) (cast : Cast) (last : ℕ)
    → HasNoBlock program
    → ReplaysUnits program.pool h (cast_of program) 0 (units_of program captures) cast last → AloneUnits program.pool h (cast_of program) 0 (shares_in program captures) cast last
script-units program captures h cast last lines units =
    alone-units program.pool h (cast_of program) 0 (shares_in program captures) cast last
    (subst (λ (us : List ScriptUnit). ReplaysUnits program.pool h (cast_of program) 0 us cast last) (units-alone program captures lines) units)

pub plays-one : PlaysOneHistory
plays-one program captures h k lines one other =
    let u = units-same program.pool h k (cast_of program) 0 (shares_in program captures) one.cast other.cast (length h) (length k) refl
    (script-units program captures h one.cast (length h) lines one.played.units) (script-units program captures k other.cast (length k) lines other.played.units) in
    sym (take_all (length h) h (omega arith)) ∙ u.taken ∙ ap (λ n. take n k) u.last_is ∙ take_all (length k) k (omega arith)

-- A history under way.

begins-by : (pool : ℕ) (h k : List Entry) (n : ℕ) (e : Entry) (call : Ask) → take n h ≡ k
    → slice_get h n ≡ Some e → entry_made (standing_of pool k) call ≡ Some e
    → BeginsWith pool h k call
begins-by pool h k n e call same there made = record {
  entry = e;
  rest = drop (suc n) h;
  joined = sym (take-append-drop (suc n) h) ∙ ap (λ (es : List Entry). es ++ drop (suc n) h) (take-one_more h n e there) ∙ cut (take n h) ∙ ap (λ (es : List Entry). es ++ e ∷ drop (suc n) h) same;
  made = made;
}
  where
    cut : (es : List Entry) → (es ++ e ∷ []) ++ drop (suc n) h ≡ es ++ e ∷ drop (suc n) h
    cut [] = refl
    cut (x ∷ xs) = ap (λ (ys : List Entry). x ∷ ys) (cut xs)

-- the entry of a turn is made by the call that comes there in an equal standing
made-there : (pool : ℕ) (s : Standing) (es : List Entry) (ask call : Ask) (e : Entry)
    → s ≡ standing_of pool es → ask ≡ call → entry_made s ask ≡ Some e
    → entry_made (standing_of pool es) call ≡ Some e
made-there pool s es ask call e stands asks made = ap (λ (x : Standing). entry_made x call) (sym stands) ∙ ap (entry_made s) (sym asks) ∙ made

-- the call of a user that is under way is the entry behind its turns
turns-begin : (pool : ℕ) (h k : List Entry) (first count count' : ℕ) (m after now : Machine) (call : Ask)
    → take first h ≡ take first k → TakesTurns pool h m (range_with_len (first + 1) count) after
    → TakesTurns pool k m (range_with_len (first + 1) count') now
    → call-at pool (take (first + count) h) after ≡ None → call-at pool (take (first + count') k) now ≡ Some call
    → (e : Entry) × ((slice_get h (first + count') ≡ Some e) × ((entry_made (standing_of pool (take (first + count') k)) call ≡ Some e) × (take (first + count') h ≡ take (first + count') k)))
turns-begin pool h k first zero zero m after now call same one other ended called =
    let at : first + 0 ≡ first = omega arith in
    let stands : standing_of pool (take (first + 0) k) ≡ standing_of pool (take (first + 0) h) = ap (standing_of pool) (ap (λ n. take n k) at ∙ sym same ∙ ap (λ n. take n h) (sym at)) in
    let clash : Some call ≡ None = sym called ∙ ap (call-at pool (take (first + 0) k)) (other ∙ sym one) ∙ ap (λ (s : Standing). next_call s.world after) stands ∙ ended in
    absurd cc
turns-begin pool h k first zero (suc count') m after now call same one other ended called =
    let at : first + 0 ≡ first = omega arith in
    absurd (calls-apart pool h k first m other.0 same (ap (λ n. call-at pool (take n h) m) (sym at) ∙ ap (call-at pool (take (first + 0) h)) (sym one) ∙ ended) other.1.0)
turns-begin pool h k first (suc count) zero m after now call same one other ended called =
    let at : first + 0 ≡ first = omega arith in
    let number : first + 1 - 1 ≡ first + 0 = omega arith in
    let turn = one.1.0 in
    let stands : standing_before pool h (first + 1) ≡ standing_of pool (take (first + 0) k) = ap (standing_of pool) (ap (λ n. take n h) (number ∙ at) ∙ same ∙ ap (λ n. take n k) (sym at)) in
    let asks : turn.ask ≡ call = same_Some turn.ask call (sym turn.asked ∙ ap (λ (s : Standing). next_call s.world m) stands ∙ ap (call-at pool (take (first + 0) k)) (sym other) ∙ called) in
    (turn.entry, (ap (slice_get h) (sym number) ∙ turn.there, (made-there pool (standing_before pool h (first + 1)) (take (first + 0) k) turn.ask call turn.entry stands asks turn.made, ap (λ n. take n h) at ∙ same ∙ ap (λ n. take n k) (sym at))))
turns-begin pool h k first (suc count) (suc count') m after now call same one other ended called =
    let t = turn-same pool h k first m one.0 other.0 same one.1.0 other.1.0 in
    let next : suc first ≡ first + 1 = omega arith in
    let more : first + suc count ≡ first + 1 + count = omega arith in
    let more' : first + suc count' ≡ first + 1 + count' = omega arith in
    let rest = turns-begin pool h k (first + 1) count count' one.0 after now call (subst (λ (n : ℕ). take n h ≡ take n k) next t.taken) one.1.1
    (subst (λ (x : Machine). TakesTurns pool k x (range_with_len (first + 1 + 1) count') now) (sym t.after_is) other.1.1)
    (subst (λ (n : ℕ). call-at pool (take n h) after ≡ None) more ended) (subst (λ (n : ℕ). call-at pool (take n k) now ≡ Some call) more' called) in
    (rest.0, (subst (λ (n : ℕ). slice_get h n ≡ Some rest.0) (sym more') rest.1.0, (subst (λ (n : ℕ). entry_made (standing_of pool (take n k)) call ≡ Some rest.0) (sym more') rest.1.1.0, subst (λ (n : ℕ). take n h ≡ take n k) (sym more') rest.1.1.1)))

units-begin : (pool : ℕ) (h k : List Entry) (cast : Cast) (first : ℕ) (units : ScriptUnit) (next : Cast) (last count : ℕ) (unit : UnitShare) (between : Cast) (from : ℕ) (before now : Machine) (call : Ask)
    → take first h ≡ take first k → AloneUnits pool h cast first units next last → slice_get units count ≡ Some unit → AloneUnits pool k cast first (take count units) between from
    → slice_get between.users (unit.user - 1) ≡ Some before → from ≤ length k → TakesTurns pool k (starting unit before) (numbers_between from (length k)) now → call-at pool k now ≡ Some call
    → BeginsWith pool h k call
units-begin pool h k cast first [] next last count unit between from before now call same one there other here up turns called = absurd cc
units-begin pool h k cast first (u ∷ units) next last zero unit between from before now call same one there other here up turns called =
    let is : u ≡ unit = same_Some u unit there in
    let r : Alone pool h cast first unit one.0 one.1.0 = subst (λ (x : UnitShare). Alone pool h cast first x one.0 one.1.0) is one.1.1.0 in
    let same_before : r.before ≡ before = same_Some r.before before (sym r.here ∙ ap (λ (c : Cast). slice_get c.users (unit.user - 1)) (sym other.0) ∙ here) in
    let front = r.forward in
    let from_is : from ≡ first = other.1 in
    let ends : first + (one.1.0 - first) ≡ one.1.0 = omega (arith, front) in
    let ends' : first + (length k - first) ≡ length k = omega (arith, up, from_is) in
    let whole : take (first + (length k - first)) k ≡ k = ap (λ n. take n k) ends' ∙ take_all (length k) k (omega arith) in
    let t = turns-begin pool h k first (one.1.0 - first) (length k - first) (starting unit r.before) r.after now call same r.turns
    (subst (λ (m : Machine). TakesTurns pool k (starting unit m) (numbers_between first (length k)) now) (sym same_before) (subst (λ (n : ℕ). TakesTurns pool k (starting unit before) (numbers_between n (length k)) now) from_is turns))
    (subst (λ (n : ℕ). call-at pool (take n h) r.after ≡ None) (sym ends) r.ended) (ap (λ (es : List Entry). call-at pool es now) whole ∙ called) in
    begins-by pool h k (first + (length k - first)) t.0 call (t.1.1.1 ∙ whole) t.1.0 (subst (λ (es : List Entry). entry_made (standing_of pool es) call ≡ Some t.0) whole t.1.1.0)
units-begin pool h k cast first (u ∷ units) next last (suc count) unit between from before now call same one there other here up turns called =
    let s = unit-same pool h k cast first u one.0 other.0 one.1.0 other.1.0 same one.1.1.0 other.1.1.0 in
    let back : AloneUnits pool k one.0 one.1.0 (take count units) between from =
    subst (λ (c : Cast). AloneUnits pool k c one.1.0 (take count units) between from) (sym s.next_is) (subst (λ (n : ℕ). AloneUnits pool k other.0 n (take count units) between from) (sym s.last_is) other.1.1.1) in
    units-begin pool h k one.0 one.1.0 units next last count unit between from before now call s.taken one.1.1.1 there back here up turns called

-- what is under way in a script without blocks: units of one user each, and the user of the next
-- one
record OnItsWay (pool : ℕ) (cast : Cast) (shares : ScriptUnit) (h : List Entry) (call : Ask) : Type 0 where
  count : ℕ
  share : UnitShare
  there : slice_get shares count ≡ Some share
  between : Cast
  from : ℕ
  units : AloneUnits pool h cast 0 (take count shares) between from
  before : Machine
  here : slice_get between.users (share.user - 1) ≡ Some before
  within : from ≤ length h
  now : Machine
  turns : TakesTurns pool h (starting share before) (numbers_between from (length h)) now
  called : call-at pool h now ≡ Some call

set-here : (users : List Machine) (n : ℕ) (old new now : Machine) → slice_get users n ≡ Some old
    → slice_get (slice_set users n new) n ≡ Some now → new ≡ now
set-here [] n old new now here there = absurd cc
set-here (u ∷ users) zero old new now here there = same_Some new now there
set-here (u ∷ users) (suc n) old new now here there = set-here users n old new now here there

user-is : (user : ℕ) (share : UnitShare) → list_any (is_share_of user) (share ∷ []) ≡ true
    → share.user ≡ user
user-is user share e = eqb-true share.user user (by_here (share.user == user) e)
  where
    by_here : (b : Bool) → (b || false) ≡ true → b ≡ true
    by_here true e = refl
    by_here false e = e

on-its-way : (program : Program) (captures : Captures) (h : List Entry) (user : ℕ) (call : Ask)
    → HasNoBlock program → ComesTo program captures h user call
    → OnItsWay program.pool (cast_of program) (shares_in program captures) h call
on-its-way program captures h user call lines comes =
    let r = comes.reached in
    let units = units-alone program captures lines in
    let at = unit-at (shares_in program captures) r.count r.unit (ap (λ (us : List ScriptUnit). slice_get us r.count) (sym units) ∙ r.there) in
    let taken : take r.count (units_of program captures) ≡ map alone_share (take r.count (shares_in program captures)) =
    ap (take r.count) units ∙ take-alone r.count (shares_in program captures) in
    let so_far = alone-so_far program.pool h r.cast r.first (length h) at.share r.lists r.afters r.forward r.split
    (subst (λ (u : ScriptUnit). EachShare (ReplaysShare program.pool h) r.cast u r.lists r.afters) at.is r.replays) in
    let is : at.share.user ≡ user = user-is user at.share (ap (λ (u : ScriptUnit). list_any (is_share_of user) u) (sym at.is) ∙ comes.of_unit) in
    let nows : comes.nows ≡ with_user r.cast at.share.user so_far.after =
    r.nows_are ∙ ap (λ (u : ScriptUnit). cast_after u r.afters r.cast) at.is ∙ ap (λ (ms : List Machine). cast_after (at.share ∷ []) ms r.cast) so_far.afters_are in
    let found : slice_get (slice_set r.cast.users (at.share.user - 1) so_far.after) (at.share.user - 1) ≡ Some comes.now =
    ap (λ (c : Cast). slice_get c.users (at.share.user - 1)) (sym nows) ∙ ap (λ n. slice_get comes.nows.users (n - 1)) is ∙ comes.here in
    let now : so_far.after ≡ comes.now = set-here r.cast.users (at.share.user - 1) so_far.before so_far.after comes.now so_far.here found in
    record {
      count = r.count;
      share = at.share;
      there = at.there;
      units = alone-units program.pool h (cast_of program) 0 (take r.count (shares_in program captures)) r.cast r.first
          (subst (λ (us : List ScriptUnit). ReplaysUnits program.pool h (cast_of program) 0 us r.cast r.first) taken r.units);
      between = r.cast;
      from = r.first;
      before = so_far.before;
      here = so_far.here;
      within = r.forward;
      now = comes.now;
      turns = subst (λ (m : Machine). TakesTurns program.pool h (starting at.share so_far.before) (numbers_between r.first (length h)) m) now so_far.turns;
      called = comes.called;
    }

pub under-way : UnderWayIsBeginning
under-way program captures h k user call lines plays comes =
    let r = on-its-way program captures k user call lines comes in
    units-begin program.pool h k (cast_of program) 0 (shares_in program captures) plays.cast (length h) r.count r.share r.between r.from r.before r.now call refl
    (script-units program captures h plays.cast (length h) lines plays.played.units) r.there r.units r.here r.within r.turns r.called

-- Two histories under way.

-- the two are one and come to one call, or one is the beginning of the other
abbrev OneOrBegun : ℕ → List Entry → List Entry → Ask → Ask → Type 0
OneOrBegun pool part other call next = ((part ≡ other) × (call ≡ next)) ⊎ (BeginsWith pool part other next ⊎ BeginsWith pool other part call)

turns-two : (pool : ℕ) (h k : List Entry) (first count count' : ℕ) (m now now' : Machine) (call next : Ask)
    → first + count ≡ length h → first + count' ≡ length k → take first h ≡ take first k
    → TakesTurns pool h m (range_with_len (first + 1) count) now → TakesTurns pool k m (range_with_len (first + 1) count') now'
    → call-at pool h now ≡ Some call → call-at pool k now' ≡ Some next → OneOrBegun pool h k call next
turns-two pool h k first zero zero m now now' call next all all' same one other called called' =
    let whole : take first h ≡ h = take_all first h (omega (arith, all)) in
    let whole' : take first k ≡ k = take_all first k (omega (arith, all')) in
    let equal : h ≡ k = sym whole ∙ same ∙ whole' in
    inl (equal, same_Some call next (sym called ∙ ap (λ (es : List Entry). call-at pool es now) equal ∙ ap (call-at pool k) (one ∙ sym other) ∙ called'))
turns-two pool h k first zero (suc count') m now now' call next all all' same one other called called' =
    let turn = other.1.0 in
    let at : first + 1 - 1 ≡ first = omega arith in
    let whole : take first h ≡ h = take_all first h (omega (arith, all)) in
    let stands : standing_before pool k (first + 1) ≡ standing_of pool h = ap (λ n. standing_of pool (take n k)) at ∙ ap (standing_of pool) (sym same ∙ whole) in
    let asks : turn.ask ≡ call = same_Some turn.ask call (sym turn.asked ∙ ap (λ (s : Standing). next_call s.world m) stands ∙ ap (call-at pool h) (sym one) ∙ called) in
    inr (inr (begins-by pool k h first turn.entry call (sym same ∙ whole) (ap (slice_get k) (sym at) ∙ turn.there)
    (made-there pool (standing_before pool k (first + 1)) h turn.ask call turn.entry stands asks turn.made)))
turns-two pool h k first (suc count) zero m now now' call next all all' same one other called called' =
    let turn = one.1.0 in
    let at : first + 1 - 1 ≡ first = omega arith in
    let whole : take first k ≡ k = take_all first k (omega (arith, all')) in
    let stands : standing_before pool h (first + 1) ≡ standing_of pool k = ap (λ n. standing_of pool (take n h)) at ∙ ap (standing_of pool) (same ∙ whole) in
    let asks : turn.ask ≡ next = same_Some turn.ask next (sym turn.asked ∙ ap (λ (s : Standing). next_call s.world m) stands ∙ ap (call-at pool k) (sym other) ∙ called') in
    inr (inl (begins-by pool h k first turn.entry next (same ∙ whole) (ap (slice_get h) (sym at) ∙ turn.there)
    (made-there pool (standing_before pool h (first + 1)) k turn.ask next turn.entry stands asks turn.made)))
turns-two pool h k first (suc count) (suc count') m now now' call next all all' same one other called called' =
    let t = turn-same pool h k first m one.0 other.0 same one.1.0 other.1.0 in
    let one_more : suc first ≡ first + 1 = omega arith in
    turns-two pool h k (first + 1) count count' one.0 now now' call next (omega (arith, all)) (omega (arith, all')) (subst (λ (n : ℕ). take n h ≡ take n k) one_more t.taken) one.1.1
    (subst (λ (x : Machine). TakesTurns pool k x (range_with_len (first + 1 + 1) count') now') (sym t.after_is) other.1.1) called called'

-- a unit whose user still has a call, against one that is whole
unit-begins : (pool : ℕ) (h k : List Entry) (cast next : Cast) (first last : ℕ) (unit : UnitShare) (before now : Machine) (call : Ask)
    → take first h ≡ take first k → Alone pool h cast first unit next last
    → slice_get cast.users (unit.user - 1) ≡ Some before → first ≤ length k → TakesTurns pool k (starting unit before) (numbers_between first (length k)) now → call-at pool k now ≡ Some call
    → BeginsWith pool h k call
unit-begins pool h k cast next first last unit before now call same whole here up turns called =
    units-begin pool h k cast first (unit ∷ []) next last 0 unit cast first before now call same (next, (last, (whole, (refl, refl)))) refl (refl, refl) here up turns called

units-two : (pool : ℕ) (h k : List Entry) (cast : Cast) (first : ℕ) (units : ScriptUnit) (count count' : ℕ) (unit unit' : UnitShare) (between between' : Cast) (from from' : ℕ) (before before' now now' : Machine) (call next : Ask)
    → take first h ≡ take first k
    → slice_get units count ≡ Some unit → AloneUnits pool h cast first (take count units) between from → slice_get between.users (unit.user - 1) ≡ Some before → from ≤ length h → TakesTurns pool h (starting unit before) (numbers_between from (length h)) now → call-at pool h now ≡ Some call
    → slice_get units count' ≡ Some unit' → AloneUnits pool k cast first (take count' units) between' from' → slice_get between'.users (unit'.user - 1) ≡ Some before' → from' ≤ length k → TakesTurns pool k (starting unit' before') (numbers_between from' (length k)) now' → call-at pool k now' ≡ Some next
    → OneOrBegun pool h k call next
units-two pool h k cast first [] count count' unit unit' between between' from from' before before' now now' call next same there one here up turns called there' other here' up' turns' called' = absurd cc
units-two pool h k cast first (u ∷ units) zero zero unit unit' between between' from from' before before' now now' call next same there one here up turns called there' other here' up' turns' called' =
    let is : unit ≡ unit' = same_Some unit unit' (sym there ∙ there') in
    let same_before : before ≡ before' = same_Some before before' (sym here ∙ ap (λ (c : Cast). slice_get c.users (unit.user - 1)) (one.0 ∙ sym other.0) ∙ ap (λ (x : UnitShare). slice_get between'.users (x.user - 1)) is ∙ here') in
    let from_is : from ≡ first = one.1 in
    let from_is' : from' ≡ first = other.1 in
    turns-two pool h k first (length h - first) (length k - first) (starting unit before) now now' call next (omega (arith, up, from_is)) (omega (arith, up', from_is')) same
    (subst (λ (n : ℕ). TakesTurns pool h (starting unit before) (numbers_between n (length h)) now) from_is turns)
    (subst (λ (m : Machine). TakesTurns pool k (starting unit m) (numbers_between first (length k)) now') (sym same_before) (subst (λ (x : UnitShare). TakesTurns pool k (starting x before') (numbers_between first (length k)) now') (sym is) (subst (λ (n : ℕ). TakesTurns pool k (starting unit' before') (numbers_between n (length k)) now') from_is' turns')))
    called called'
units-two pool h k cast first (u ∷ units) zero (suc count') unit unit' between between' from from' before before' now now' call next same there one here up turns called there' other here' up' turns' called' =
    let is : u ≡ unit = same_Some u unit there in
    let from_is : from ≡ first = one.1 in
    inr (inr (unit-begins pool k h cast other.0 first other.1.0 unit before now call (sym same) (subst (λ (x : UnitShare). Alone pool k cast first x other.0 other.1.0) is other.1.1.0)
    (ap (λ (c : Cast). slice_get c.users (unit.user - 1)) (sym one.0) ∙ here) (omega (arith, up, from_is)) (subst (λ (n : ℕ). TakesTurns pool h (starting unit before) (numbers_between n (length h)) now) from_is turns) called))
units-two pool h k cast first (u ∷ units) (suc count) zero unit unit' between between' from from' before before' now now' call next same there one here up turns called there' other here' up' turns' called' =
    let is : u ≡ unit' = same_Some u unit' there' in
    let from_is : from' ≡ first = other.1 in
    inr (inl (unit-begins pool h k cast one.0 first one.1.0 unit' before' now' next same (subst (λ (x : UnitShare). Alone pool h cast first x one.0 one.1.0) is one.1.1.0)
    (ap (λ (c : Cast). slice_get c.users (unit'.user - 1)) (sym other.0) ∙ here') (omega (arith, up', from_is)) (subst (λ (n : ℕ). TakesTurns pool k (starting unit' before') (numbers_between n (length k)) now') from_is turns') called'))
units-two pool h k cast first (u ∷ units) (suc count) (suc count') unit unit' between between' from from' before before' now now' call next same there one here up turns called there' other here' up' turns' called' =
    let s = unit-same pool h k cast first u one.0 other.0 one.1.0 other.1.0 same one.1.1.0 other.1.1.0 in
    let back : AloneUnits pool k one.0 one.1.0 (take count' units) between' from' =
    subst (λ (c : Cast). AloneUnits pool k c one.1.0 (take count' units) between' from') (sym s.next_is) (subst (λ (n : ℕ). AloneUnits pool k other.0 n (take count' units) between' from') (sym s.last_is) other.1.1.1) in
    units-two pool h k one.0 one.1.0 units count count' unit unit' between between' from from' before before' now now' call next s.taken there one.1.1.1 here up turns called there' back here' up' turns' called'

pub under-way-one : UnderWayIsOne
under-way-one program captures h k user call next_user next lines one other =
    let r = on-its-way program captures h user call lines one in
    let r' = on-its-way program captures k next_user next lines other in
    units-two program.pool h k (cast_of program) 0 (shares_in program captures) r.count r'.count r.share r'.share r.between r'.between r.from r'.from r.before r'.before r.now r'.now call next refl
    r.there r.units r.here r.within r.turns r.called r'.there r'.units r'.here r'.within r'.turns r'.called
