-- A script without blocks: each unit has one share, and its user's entries are all of the unit's.
use Rattle.std.proofs.Common.{ℕ, zero, suc, ◌+◌, ◌-◌, ◌≤◌, ◌≡◌, List, [], ◌∷◌, ◌++◌, length, map, take, slice_get, Some, refl, sym, ◌∙◌, ap, subst, arith}
use Rattle.std.specs.List.{range_with_len, AllByRecursion}
use Rattle.vale_entry.specs.declared.entry.Entry.{Entry}
use Rattle.vale_script.specs.declared.script.Unit.{Unit as ReadUnit}
use Rattle.vale_script.specs.declared.script.Unit.TheVariants as parts
use Rattle.vale_script.specs.Script.{Program}
use Rattle.vale_replay.specs.Machine.{Machine, closing_tasks}
use Rattle.vale_replay.specs.Tasks.{Captures, records_of}
use Rattle.vale_replay.specs.Replay.{Cast, UnitShare, ScriptUnit, TakesTurns, ReplaysShare, ReplaysUnit, ReplaysUnits, EachShare, AreSplit, NeedsNoCall, cast_after, closing_unit, share_of, shares_of, starting, units_of, user_count, with_user}
use Rattle.vale_replay.specs.Laws.{IsLine, HasNoBlock}
use Rattle.vale_replay.proofs.Numbers.{split-one}

-- so many entries behind the first ones
abbrev pub numbers_between : ℕ → ℕ → List ℕ
numbers_between first last = range_with_len (first + 1) (last - first)

-- a unit of one user
pub record Alone (pool : ℕ) (h : List Entry) (cast : Cast) (first : ℕ) (share : UnitShare) (next : Cast) (last : ℕ) : Type 0 where
  pub before : Machine
  pub after : Machine
  pub here : slice_get cast.users (share.user - 1) ≡ Some before
  pub forward : first ≤ last
  pub turns : TakesTurns pool h (starting share before) (numbers_between first last) after
  pub ended : NeedsNoCall pool (take last h) after
  pub others : next ≡ with_user cast share.user after

abbrev pub alone_share : UnitShare → ScriptUnit
alone_share share = share ∷ []

-- the user of a unit of one user, and where it has come with the entries of the unit up to some
-- number
pub record AloneSoFar (pool : ℕ) (h : List Entry) (cast : Cast) (first : ℕ) (share : UnitShare) (afters : List Machine) (last : ℕ) : Type 0 where
  pub before : Machine
  pub after : Machine
  pub here : slice_get cast.users (share.user - 1) ≡ Some before
  pub turns : TakesTurns pool h (starting share before) (numbers_between first last) after
  pub afters_are : afters ≡ after ∷ []

pub alone-so_far : (pool : ℕ) (h : List Entry) (cast : Cast) (first last : ℕ) (share : UnitShare) (lists : List (List ℕ)) (afters : List Machine)
    → first ≤ length h → AreSplit first last lists → EachShare (ReplaysShare pool h) cast (share ∷ []) lists afters → AloneSoFar pool h cast first share afters last
alone-so_far pool h cast first last share (ns ∷ []) (after ∷ []) within split each = record {
  before = each.0.0;
  after = after;
  here = each.0.1;
  turns = subst (λ (ms : List ℕ). TakesTurns pool h (starting share each.0.0) ms after) (split-one first last ns (length h) within each.0.2.rise split) each.0.2.turns;
  afters_are = refl;
}
alone-so_far pool h cast first last share [] [] within split each = absurd each
alone-so_far pool h cast first last share [] (after ∷ afters) within split each = absurd each
alone-so_far pool h cast first last share (ns ∷ lists) [] within split each = absurd each
alone-so_far pool h cast first last share (ns ∷ m ∷ lists) (after ∷ []) within split each = absurd each.1
alone-so_far pool h cast first last share (ns ∷ []) (after ∷ b ∷ afters) within split each = absurd each.1
alone-so_far pool h cast first last share (ns ∷ m ∷ lists) (after ∷ b ∷ afters) within split each = absurd each.1

pub alone : (pool : ℕ) (h : List Entry) (cast : Cast) (first : ℕ) (share : UnitShare) (next : Cast) (last : ℕ)
    → ReplaysUnit pool h cast first (share ∷ []) next last → Alone pool h cast first share next last
alone pool h cast first share next last r =
    let up = r.forward in
    let within = r.within in
    let a = alone-so_far pool h cast first last share r.lists r.afters (omega (arith, up, within)) r.split r.replays in
    let ended : AllByRecursion (NeedsNoCall pool (take last h)) (a.after ∷ []) = subst (AllByRecursion (NeedsNoCall pool (take last h))) a.afters_are r.ended in
    record {
      before = a.before;
      after = a.after;
      others = r.others ∙ ap (λ (ms : List Machine). cast_after (share ∷ []) ms cast) a.afters_are;
      here = a.here;
      forward = r.forward;
      turns = a.turns;
      ended = ended.0;
    }

-- units of one user each, one after another
abbrev pub AloneUnits : ℕ → List Entry → Cast → ℕ → ScriptUnit → Cast → ℕ → Type 0
AloneUnits pool h cast first [] next last = (next ≡ cast) × (last ≡ first)
AloneUnits pool h cast first (share ∷ shares) next last =
    (between : Cast) × ((number : ℕ) × (Alone pool h cast first share between number × AloneUnits pool h between number shares next last))

pub alone-units : (pool : ℕ) (h : List Entry) (cast : Cast) (first : ℕ) (shares : ScriptUnit) (next : Cast) (last : ℕ)
    → ReplaysUnits pool h cast first (map alone_share shares) next last → AloneUnits pool h cast first shares next last
alone-units pool h cast first [] next last all = all
alone-units pool h cast first (share ∷ shares) next last all =
    (all.0, (all.1.0, (alone pool h cast first share all.0 all.1.0 all.1.1.0, alone-units pool h all.0 all.1.0 shares next last all.1.1.1)))

-- the shares of a script without blocks
abbrev share_of_part : (List ℕ → List (List ℕ)) → ReadUnit → ScriptUnit
share_of_part records (parts.Single line) = share_of records line.user (line.act ∷ []) ∷ []
share_of_part records (parts.Block lines) = []

abbrev line_shares : (List ℕ → List (List ℕ)) → List ReadUnit → ScriptUnit
line_shares records [] = []
line_shares records (part ∷ parts) = share_of_part records part ++ line_shares records parts

lines-alone : (records : List ℕ → List (List ℕ)) (users : ℕ) (units : List ReadUnit)
    → AllByRecursion IsLine units
    → map (shares_of records users) units ≡ map alone_share (line_shares records units)
lines-alone records users [] lines = refl
lines-alone records users (parts.Single line ∷ units) lines =
    ap (λ (rest : List ScriptUnit). (share_of records line.user (line.act ∷ []) ∷ []) ∷ rest) (lines-alone records users units lines.1)
lines-alone records users (parts.Block some ∷ units) lines = absurd lines.0

abbrev closing_share : ℕ → UnitShare
closing_share user = record { user = user; tasks = closing_tasks }

closings-alone : (ns : List ℕ) → map closing_unit ns ≡ map alone_share (map closing_share ns)
closings-alone [] = refl
closings-alone (n ∷ ns) = ap (λ (rest : List ScriptUnit). closing_unit n ∷ rest) (closings-alone ns)

map-both : (xs ys : ScriptUnit)
    → map alone_share xs ++ map alone_share ys ≡ map alone_share (xs ++ ys)
map-both [] ys = refl
map-both (x ∷ xs) ys = ap (λ (rest : List ScriptUnit). alone_share x ∷ rest) (map-both xs ys)

abbrev pub shares_in : Program → Captures → ScriptUnit
shares_in program captures = line_shares (records_of program.files captures) program.units ++ map closing_share (range_with_len 1 (user_count program))

pub units-alone : (program : Program) (captures : Captures) → HasNoBlock program
    → units_of program captures ≡ map alone_share (shares_in program captures)
units-alone program captures lines =
    let front = lines-alone (records_of program.files captures) (user_count program) program.units lines in
    let back = closings-alone (range_with_len 1 (user_count program)) in
    ap (λ (rest : List ScriptUnit). rest ++ map closing_unit (range_with_len 1 (user_count program))) front
    ∙ ap (λ (rest : List ScriptUnit). map alone_share (line_shares (records_of program.files captures) program.units) ++ rest) back
    ∙ map-both (line_shares (records_of program.files captures) program.units) (map closing_share (range_with_len 1 (user_count program)))

pub take-alone : (count : ℕ) (shares : ScriptUnit)
    → take count (map alone_share shares) ≡ map alone_share (take count shares)
take-alone zero shares = refl
take-alone (suc count) [] = refl
take-alone (suc count) (share ∷ shares) = ap (λ (rest : List ScriptUnit). alone_share share ∷ rest) (take-alone count shares)

pub record IsAt (shares : ScriptUnit) (count : ℕ) (unit : ScriptUnit) : Type 0 where
  pub share : UnitShare
  pub there : slice_get shares count ≡ Some share
  pub is : unit ≡ share ∷ []

pub unit-at : (shares : ScriptUnit) (count : ℕ) (unit : ScriptUnit)
    → slice_get (map alone_share shares) count ≡ Some unit → IsAt shares count unit
unit-at [] count unit e = absurd cc
unit-at (share ∷ shares) zero unit e = let same : alone_share share ≡ unit = cc in record { share = share; there = refl; is = sym same }
unit-at (share ∷ shares) (suc count) unit e = let rest = unit-at shares count unit e in record { share = rest.share; there = rest.there; is = rest.is }
