-- What the lines of a script have its users do, summed over the units.
use Rattle.std.proofs.Common.{ℕ, zero, suc, ◌+◌, ◌*◌, ◌<◌, ◌≤◌, ◌≡◌, ◌⊎◌, inl, inr, Bool, true, false, cond, List, [], ◌∷◌, ◌++◌, map, filter, flat_map, length, sum_by, refl, sym, ◌∙◌, ap, arith}
use Rattle.std.specs.Prelude.{◌==◌}
use Rattle.std.specs.List.{range_with_len, AllByRecursion as Each}
use Rattle.std.specs.Str.Lines.{lines}
use Rattle.std.proofs.lemmas.Bool.{eqb-true, cases_Bool}
use Rattle.std.proofs.lemmas.List.Sums.{sum_by-cons, sum_by-append}
use Rattle.vale_script.specs.declared.script.Act.{Act}
use Rattle.vale_script.specs.declared.script.Act.TheVariants as acts
use Rattle.vale_script.specs.declared.script.Line.{Line}
use Rattle.vale_script.specs.declared.script.Unit.{Unit as ReadUnit}
use Rattle.vale_script.specs.declared.script.Unit.TheVariants as parts
use Rattle.vale_script.specs.Script.{Program}
use Rattle.vale_captures.specs.Counting.{count_of, frames_by}
use Rattle.vale_captures.specs.Inputs.{InputFile, name_of, frames_of, records_in}
use Rattle.vale_script.proofs.HexLines.{HexFits}
use Rattle.vale_captures.proofs.FewLines.{few-acts}
use Rattle.nm_types.specs.Limits.{buffer_bytes, most_bytes, most_entries, most_script_lines, most_switch_ports}
use Rattle.nm_types.specs.declared.limits.Limits.{Limits}
use Rattle.nm_types.specs.OwnPorts.{OwnPort}
use Rattle.nm_types.proofs.Lists.{each-joined, each-front, each-back}
use Rattle.vale_replay.specs.Tasks.{Task, Depart, fits_to_play, records_of, tasks_of_line, tasks_of_lines}
use Rattle.vale_replay.specs.Machine.{new_machine, closing_of, closing_tasks}
use Rattle.vale_replay.specs.Replay.{UnitShare, ScriptUnit, share_of, shares_of, act_of, acts_of, has_line, is_of_user, closing_unit, units_of, user_count}
use Rattle.vale_replay.specs.Saved.{acts_of_unit}
use Rattle.vale_cost.specs.Completeness.{Cost, Sends, Bytes, Calls, Opens, cost_of_task, cost_of_units, frames_put, bytes_put, opens_by, IsPlainAct, IsPlainTask, IsCosted, LineCosts, TasksFit}
use Rattle.vale_cost.specs.FewFrames.{bytes_by, frames_put_in, bytes_put_in, opens_of, most_light_frames, most_narrow_frames, most_narrow_ports, most_light_bytes, LightScriptsFit}
use Rattle.vale_cost.proofs.HexUnits.{hex-fits}
use Rattle.vale_cost.proofs.RoomHistories.{times-less}
use Rattle.vale_captures.proofs.Names.{records-same}
use Rattle.vale_cost.proofs.RoomRests.{cost_in, ArePlain}
use Rattle.vale_cost.proofs.RoomCosts.{lines-cost}
use Rattle.vale_entry.proofs.Removals.{sum-filter_less}

-- ---- sums

sum-both : {X : Type 0} (f g : X → ℕ) (xs : List X) → sum_by (λ x. f x + g x) xs ≡ sum_by f xs + sum_by g xs
sum-both f g [] = refl
sum-both f g (x ∷ xs) =
    let rest = sum-both f g xs in
    let both = sum_by-cons (λ y. f y + g y) x xs in
    let one = sum_by-cons f x xs in
    let other = sum_by-cons g x xs in
    omega (arith, rest, both, one, other)

sum-at : {X : Type 0} (f g : X → ℕ) (xs : List X) → ((x : X) → f x ≡ g x) → sum_by f xs ≡ sum_by g xs
sum-at f g [] same = refl
sum-at f g (x ∷ xs) same =
    let rest = sum-at f g xs same in
    let here = same x in
    let one = sum_by-cons f x xs in
    let other = sum_by-cons g x xs in
    omega (arith, rest, here, one, other)

sum-none : {X : Type 0} (f : X → ℕ) (xs : List X) → ((x : X) → f x ≡ 0) → sum_by f xs ≡ 0
sum-none f [] none = refl
sum-none f (x ∷ xs) none =
    let rest = sum-none f xs none in
    let here = none x in
    let all = sum_by-cons f x xs in
    omega (arith, rest, here, all)

sum-mapped : {X Y : Type 0} (f : Y → ℕ) (g : X → Y) (xs : List X) → sum_by f (map g xs) ≡ sum_by (λ x. f (g x)) xs
sum-mapped f g [] = refl
sum-mapped f g (x ∷ xs) =
    let rest = sum-mapped f g xs in
    let one = sum_by-cons f (g x) (map g xs) in
    let other = sum_by-cons (λ y. f (g y)) x xs in
    omega (arith, rest, one, other)

-- a range has a number once at most

abbrev at_one : ℕ → ℕ → ℕ → ℕ
at_one x c n = cond (x == n) c 0

none-from : (x c low count : ℕ) → x < low → sum_by (at_one x c) (range_with_len low count) ≡ 0
none-from x c low zero less = refl
none-from x c low (suc count) less = by (cases_Bool (x == low)) (none-from x c (low + 1) count (omega (arith, less)))
  where
    by : ((x == low) ≡ true) ⊎ ((x == low) ≡ false) → sum_by (at_one x c) (range_with_len (low + 1) count) ≡ 0 → sum_by (at_one x c) (low ∷ range_with_len (low + 1) count) ≡ 0
    by (inl is) rest = let same = eqb-true x low is in absurd (omega (arith, same, less))
    by (inr other) rest =
        let all = sum_by-cons (at_one x c) low (range_with_len (low + 1) count) in
        let here : at_one x c low ≡ 0 = ap (λ (b : Bool). cond b c 0) other in
        omega (arith, all, here, rest)

once-at_most : (x c low count : ℕ) → sum_by (at_one x c) (range_with_len low count) ≤ c
once-at_most x c low zero = omega arith
once-at_most x c low (suc count) = by (cases_Bool (x == low)) (once-at_most x c (low + 1) count)
  where
    all : sum_by (at_one x c) (low ∷ range_with_len (low + 1) count) ≡ at_one x c low + sum_by (at_one x c) (range_with_len (low + 1) count)
    all = sum_by-cons (at_one x c) low (range_with_len (low + 1) count)

    by : ((x == low) ≡ true) ⊎ ((x == low) ≡ false) → sum_by (at_one x c) (range_with_len (low + 1) count) ≤ c → sum_by (at_one x c) (low ∷ range_with_len (low + 1) count) ≤ c
    by (inl is) rest =
        let same = eqb-true x low is in
        let none = none-from x c (low + 1) count (omega (arith, same)) in
        let here : at_one x c low ≡ c = ap (λ (b : Bool). cond b c 0) is in
        omega (arith, all, here, none)
    by (inr other) rest =
        let here : at_one x c low ≡ 0 = ap (λ (b : Bool). cond b c 0) other in
        omega (arith, all, here, rest)

-- ---- what units have their users do, by a measure of tasks

module _ (f : Task → ℕ) (records : List ℕ → List (List ℕ)) where
  abbrev of_act : Act → ℕ
  of_act act = sum_by f (tasks_of_line records act)

  abbrev of_share : UnitShare → ℕ
  of_share share = sum_by f (share.tasks (new_machine 0 0))

  abbrev of_unit : ScriptUnit → ℕ
  of_unit unit = sum_by of_share unit

  lines-sum : (some : List Act) → sum_by f (tasks_of_lines records some) ≡ sum_by of_act some
  lines-sum [] = refl
  lines-sum (act ∷ some) =
      let rest = lines-sum some in
      let both = sum_by-append f (tasks_of_line records act) (tasks_of_lines records some) in
      let other = sum_by-cons of_act act some in
      omega (arith, rest, both, other)

  -- the lines of one user
  abbrev of_user : List Line → ℕ → ℕ
  of_user ls user = sum_by of_act (acts_of ls user)

  own-line : (line : Line) (ls : List Line) (user : ℕ) → of_user (line ∷ ls) user ≡ at_one line.user (of_act line.act) user + of_user ls user
  own-line line ls user = by (line.user == user)
    where
      by : (b : Bool) → sum_by of_act (map act_of (cond b (line ∷ filter (is_of_user user) ls) (filter (is_of_user user) ls))) ≡ cond b (of_act line.act) 0 + of_user ls user
      by true = sum_by-cons of_act line.act (acts_of ls user)
      by false = omega arith

  users-sum : (ls : List Line) (low count : ℕ) → sum_by (of_user ls) (range_with_len low count) ≤ sum_by of_act (map act_of ls)
  users-sum [] low count =
      let none = sum-none (of_user []) (range_with_len low count) (λ user. refl) in
      omega (arith, none)
  users-sum (line ∷ ls) low count =
      let both = sum-at (of_user (line ∷ ls)) (λ user. at_one line.user (of_act line.act) user + of_user ls user) (range_with_len low count) (own-line line ls)
      ∙ sum-both (at_one line.user (of_act line.act)) (of_user ls) (range_with_len low count) in
      let one = once-at_most line.user (of_act line.act) low count in
      let rest = users-sum ls low count in
      let all = sum_by-cons of_act line.act (map act_of ls) in
      omega (arith, both, one, rest, all)

  unit-sum : (users : ℕ) (unit : ReadUnit) → of_unit (shares_of records users unit) ≤ sum_by of_act (acts_of_unit unit)
  unit-sum users (parts.Single line) =
      let one : of_unit (shares_of records users (parts.Single line)) ≡ of_share (share_of records line.user (line.act ∷ [])) + 0 = sum_by-cons of_share (share_of records line.user (line.act ∷ [])) [] in
      let same : of_share (share_of records line.user (line.act ∷ [])) ≡ sum_by of_act (acts_of_unit (parts.Single line)) = lines-sum (line.act ∷ []) in
      omega (arith, one, same)
  unit-sum users (parts.Block ls) =
      let present : List ℕ = filter (has_line ls) (range_with_len 1 users) in
      let same : of_unit (shares_of records users (parts.Block ls)) ≡ sum_by (of_user ls) present =
      sum-mapped of_share (λ user. share_of records user (acts_of ls user)) present
      ∙ sum-at (λ user. of_share (share_of records user (acts_of ls user))) (of_user ls) present (λ user. lines-sum (acts_of ls user)) in
      let kept = sum-filter_less (of_user ls) (has_line ls) (range_with_len 1 users) in
      let all : sum_by (of_user ls) (range_with_len 1 users) ≤ sum_by of_act (acts_of_unit (parts.Block ls)) = users-sum ls 1 users in
      omega (arith, same, kept, all)

  units-sum : (users : ℕ) (units : List ReadUnit) → sum_by of_unit (map (shares_of records users) units) ≤ sum_by of_act (flat_map acts_of_unit units)
  units-sum users [] = omega arith
  units-sum users (unit ∷ units) =
      let here = unit-sum users unit in
      let rest = units-sum users units in
      let one = sum_by-cons of_unit (shares_of records users unit) (map (shares_of records users) units) in
      let other = sum_by-append of_act (acts_of_unit unit) (flat_map acts_of_unit units) in
      omega (arith, here, rest, one, other)

  closings-sum : f Depart ≡ 0 → (users : List ℕ) → sum_by of_unit (map closing_unit users) ≡ 0
  closings-sum none [] = refl
  closings-sum none (user ∷ users) =
      let rest = closings-sum none users in
      let all = sum_by-cons of_unit (closing_unit user) (map closing_unit users) in
      let unit : of_unit (closing_unit user) ≡ 0 + (0 + f Depart) = refl in
      omega (arith, rest, all, unit, none)

  pub script-sum : f Depart ≡ 0 → (users : ℕ) (units : List ReadUnit)
      → sum_by of_unit (map (shares_of records users) units ++ map closing_unit (range_with_len 1 users)) ≤ sum_by of_act (flat_map acts_of_unit units)
  script-sum none users units =
      let both = sum_by-append of_unit (map (shares_of records users) units) (map closing_unit (range_with_len 1 users)) in
      let front = units-sum users units in
      let closing = closings-sum none (range_with_len 1 users) in
      omega (arith, both, front, closing)

-- ---- each share is costed

same-less : (n : ℕ) → n ≤ n
same-less n = omega arith

none-less : (k n : ℕ) → k ≡ 0 → k ≤ n
none-less k n none = omega (arith, none)

each-mapped : {X Y : Type 0} (P : Y → Type 0) (g : X → Y) (xs : List X) → ((x : X) → P (g x)) → Each P (map g xs)
each-mapped P g [] each = tt
each-mapped P g (x ∷ xs) each = (each x, each-mapped P g xs each)

lines-plain : (records : List ℕ → List (List ℕ)) (some : List Act) → Each IsPlainAct some → ArePlain (tasks_of_lines records some)
lines-plain records [] plain = tt
lines-plain records (act ∷ some) plain =
    let line : LineCosts records act = lines-cost records act in
    each-joined IsPlainTask (tasks_of_line records act) (tasks_of_lines records some) (line.plain plain.0) (lines-plain records some plain.1)

line-share : (records : List ℕ → List (List ℕ)) (user : ℕ) (some : List Act) → Each IsPlainAct some → IsCosted (share_of records user some)
line-share records user some plain = record {
  costs = λ c m. same-less (cost_in c (tasks_of_lines records some));
  plain = λ m. lines-plain records some plain;
}

own-plain : (ls : List Line) (user : ℕ) → Each IsPlainAct (map act_of ls) → Each IsPlainAct (acts_of ls user)
own-plain [] user plain = tt
own-plain (line ∷ ls) user plain = by (is_of_user user line) (own-plain ls user plain.1)
  where
    by : (b : Bool) → Each IsPlainAct (acts_of ls user) → Each IsPlainAct (map act_of (cond b (line ∷ filter (is_of_user user) ls) (filter (is_of_user user) ls)))
    by true rest = (plain.0, rest)
    by false rest = rest

unit-costed : (records : List ℕ → List (List ℕ)) (users : ℕ) (unit : ReadUnit) → Each IsPlainAct (acts_of_unit unit) → Each IsCosted (shares_of records users unit)
unit-costed records users (parts.Single line) plain = (line-share records line.user (line.act ∷ []) plain, tt)
unit-costed records users (parts.Block ls) plain =
    each-mapped IsCosted (λ user. share_of records user (acts_of ls user)) (filter (has_line ls) (range_with_len 1 users))
    (λ user. line-share records user (acts_of ls user) (own-plain ls user plain))

units-costed : (records : List ℕ → List (List ℕ)) (users : ℕ) (units : List ReadUnit) → Each IsPlainAct (flat_map acts_of_unit units) → Each (Each IsCosted) (map (shares_of records users) units)
units-costed records users [] plain = tt
units-costed records users (unit ∷ units) plain = (
  unit-costed records users unit (each-front IsPlainAct (acts_of_unit unit) (flat_map acts_of_unit units) plain),
  units-costed records users units (each-back IsPlainAct (acts_of_unit unit) (flat_map acts_of_unit units) plain),
)

record IsFree (tasks : List Task) : Type 0 where
  costs : (c : Cost) → cost_in c tasks ≡ 0
  are_plain : ArePlain tasks

depart-free : (c : Cost) → cost_of_task c Depart ≡ 0
depart-free Sends = refl
depart-free Bytes = refl
depart-free Calls = refl
depart-free (Opens switch) = refl

closing-none : (c : Cost) (p : OwnPort) → cost_in c (closing_of p) ≡ 0
closing-none Sends p = refl
closing-none Bytes p = refl
closing-none Calls p = refl
closing-none (Opens switch) p = refl

closing-free : (ports : List OwnPort) → IsFree (flat_map closing_of ports ++ Depart ∷ [])
closing-free [] = record {
  costs = λ c. (let one = sum_by-cons (cost_of_task c) Depart [] in let none = depart-free c in omega (arith, one, none));
  are_plain = (tt, tt);
}
closing-free (p ∷ ports) =
    let rest = closing-free ports in
    record {
      costs = λ c.
          (let both = sum_by-append (cost_of_task c) (closing_of p) (flat_map closing_of ports ++ Depart ∷ []) in
          let none = closing-none c p in
          let others = rest.costs c in
          omega (arith, both, none, others));
      are_plain = (tt, (tt, rest.are_plain));
    }

pub closing-costed : (user : ℕ) → Each IsCosted (closing_unit user)
closing-costed user = (
  record {
    costs = λ c m. none-less (cost_in c (closing_tasks m)) (cost_in c (closing_tasks (new_machine 0 0))) ((closing-free m.own.ports).costs c);
    plain = λ m. (closing-free m.own.ports).are_plain;
  },
  tt,
)

-- ---- what one line costs by the frames that are counted of it

abbrev counted : List InputFile → Act → ℕ
counted played act = count_of act + frames_by played act

record IsFew (records : List ℕ → List (List ℕ)) (played : List InputFile) (act : Act) : Type 0 where
  sends : cost_in Sends (tasks_of_line records act) ≤ counted played act + 1
  bytes : cost_in Bytes (tasks_of_line records act) ≤ bytes_by played act + buffer_bytes * (counted played act + 2)
  calls : cost_in Calls (tasks_of_line records act) ≤ 6 * counted played act + 3

line-few : (records : List ℕ → List (List ℕ)) (played : List InputFile) (act : Act) → frames_put records act ≤ counted played act → bytes_put records act ≡ bytes_by played act → IsFew records played act
line-few records played act put short =
    let line : LineCosts records act = lines-cost records act in
    record { sends = omega (arith, line.sends, put); bytes = omega (arith, line.bytes, put, short); calls = omega (arith, line.calls, put) }

acts-few : (records : List ℕ → List (List ℕ)) (played : List InputFile) → ((file : List ℕ) → records file ≡ records_in played file) → (act : Act) → HexFits act → IsFew records played act
acts-few records played same acts.Enter short = line-few records played acts.Enter (omega arith) refl
acts-few records played same (acts.Open name tx rx extra) short = line-few records played (acts.Open name tx rx extra) (omega arith) refl
acts-few records played same (acts.Put name count to from len fill) short = line-few records played (acts.Put name count to from len fill) (omega arith) refl
acts-few records played same (acts.Hex name frame) short =
    let line : LineCosts records (acts.Hex name frame) = lines-cost records (acts.Hex name frame) in
    record { sends = omega (arith, line.sends); bytes = omega (arith, line.bytes, short); calls = omega arith }
acts-few records played same (acts.Play name file batch) short =
    let all = ap length (same file) in
    line-few records played (acts.Play name file batch) (omega (arith, all)) (ap (λ (frames : List (List ℕ)). sum_by length (filter (fits_to_play name) frames)) (same file))
acts-few records played same (acts.Tx name) short = line-few records played (acts.Tx name) (omega arith) refl
acts-few records played same (acts.Rx name keep) short = line-few records played (acts.Rx name keep) (omega arith) refl
acts-few records played same (acts.Fwd from to count) short = line-few records played (acts.Fwd from to count) (omega arith) refl
acts-few records played same (acts.Poke name side slot field value) short = line-few records played (acts.Poke name side slot field value) (omega arith) refl
acts-few records played same (acts.Move name side head cur) short = line-few records played (acts.Move name side head cur) (omega arith) refl
acts-few records played same (acts.Swap name side slot other other_side other_slot quiet) short = line-few records played (acts.Swap name side slot other other_side other_slot quiet) (omega arith) refl
acts-few records played same (acts.Extra name i j) short = line-few records played (acts.Extra name i j) (omega arith) refl
acts-few records played same (acts.Watch monitor target sides) short = line-few records played (acts.Watch monitor target sides) (omega arith) refl
acts-few records played same (acts.Stat name) short = line-few records played (acts.Stat name) (omega arith) refl
acts-few records played same (acts.Save name file) short = line-few records played (acts.Save name file) (omega arith) refl
acts-few records played same (acts.Close name) short = line-few records played (acts.Close name) (omega arith) refl

record AreFew (records : List ℕ → List (List ℕ)) (played : List InputFile) (some : List Act) (frames : ℕ) : Type 0 where
  sends : sum_by (of_act (cost_of_task Sends) records) some ≤ frames + length some
  bytes : sum_by (of_act (cost_of_task Bytes) records) some ≤ sum_by (bytes_by played) some + buffer_bytes * (frames + 2 * length some)
  calls : sum_by (of_act (cost_of_task Calls) records) some ≤ 6 * frames + 3 * length some

all-few : (records : List ℕ → List (List ℕ)) (played : List InputFile) → ((file : List ℕ) → records file ≡ records_in played file) → (some : List Act) → Each HexFits some
    → AreFew records played some (sum_by count_of some + sum_by (frames_by played) some)
all-few records played same [] short = record { sends = omega arith; bytes = omega arith; calls = omega arith }
all-few records played same (act ∷ some) short =
    let rest = all-few records played same some short.1 in
    let here = acts-few records played same act short.0 in
    let s = sum_by-cons (of_act (cost_of_task Sends) records) act some in
    let b = sum_by-cons (of_act (cost_of_task Bytes) records) act some in
    let k = sum_by-cons (of_act (cost_of_task Calls) records) act some in
    let y = sum_by-cons (bytes_by played) act some in
    let c = sum_by-cons count_of act some in
    let p = sum_by-cons (frames_by played) act some in
    record {
      sends = omega (arith, rest.sends, here.sends, s, c, p);
      bytes = omega (arith, rest.bytes, here.bytes, b, y, c, p);
      calls = omega (arith, rest.calls, here.calls, k, c, p);
    }

all-opened : (records : List ℕ → List (List ℕ)) (switch : List ℕ) (some : List Act) → sum_by (of_act (cost_of_task (Opens switch)) records) some ≤ sum_by (opens_by switch) some
all-opened records switch [] = omega arith
all-opened records switch (act ∷ some) =
    let rest = all-opened records switch some in
    let line : LineCosts records act = lines-cost records act in
    let here = line.opens switch in
    let one = sum_by-cons (of_act (cost_of_task (Opens switch)) records) act some in
    let other = sum_by-cons (opens_by switch) act some in
    omega (arith, rest, here, one, other)

-- ---- a script

found-same : (program : Program) (played : List InputFile) → map name_of played ≡ program.files → (file : List ℕ)
    → records_of program.files (map frames_of played) file ≡ records_in played file
found-same program played names file =
    ap (λ (ns : List (List ℕ)). records_of ns (map frames_of played) file) (sym names) ∙ sym (records-same played file)

-- The tasks of a script are few for limits that have room for its frames, with so many ports on each switch:
-- each frame, and each line, costs a Send at most.
pub tasks-fit : (program : Program) (played : List InputFile) (limits : Limits) (most frames lines bytes : ℕ) → map name_of played ≡ program.files
    → Each IsPlainAct (flat_map acts_of_unit program.units) → Each HexFits (flat_map acts_of_unit program.units) → (most_switch_ports ≤ most) ⊎ ((switch : List ℕ) → opens_of switch program ≤ most)
    → frames_put_in program played ≤ frames → length (flat_map acts_of_unit program.units) ≤ lines → bytes_put_in program played ≤ bytes
    → 2 * most * (frames + lines) + (6 * frames + 3 * lines) ≤ limits.entries → bytes + buffer_bytes * (frames + 2 * lines) ≤ limits.bytes
    → TasksFit program (map frames_of played) limits
tasks-fit program played limits most frames lines bytes names plain short few few-frames few-lines few-bytes entries-fit bytes-fit = record {
  most = most;
  few = opened few;
  costed = each-joined (Each IsCosted) (map (shares_of records (user_count program)) program.units) (map closing_unit (range_with_len 1 (user_count program)))
      (units-costed records (user_count program) program.units plain)
      (each-mapped (Each IsCosted) closing_unit (range_with_len 1 (user_count program)) closing-costed);
  entries =
      let sends : cost_of_units Sends units ≤ frames + lines = (let sum = costs Sends in omega (arith, all.sends, sum, few-frames, few-lines)) in
      let product = times-less (2 * most) (cost_of_units Sends units) (frames + lines) sends in
      let calls = costs Calls in
      omega (arith, product, entries-fit, all.calls, calls, few-frames, few-lines);
  bytes = let sum = costs Bytes in omega (arith, all.bytes, sum, few-bytes, few-frames, few-lines, bytes-fit);
}
  where
    records : List ℕ → List (List ℕ)
    records = records_of program.files (map frames_of played)

    units : List ScriptUnit
    units = units_of program (map frames_of played)

    some : List Act
    some = flat_map acts_of_unit program.units

    all : AreFew records played some (frames_put_in program played)
    all = all-few records played (found-same program played names) some short

    costs : (c : Cost) → cost_of_units c units ≤ sum_by (of_act (cost_of_task c) records) some
    costs c = script-sum (cost_of_task c) records (depart-free c) (user_count program) program.units

    opened : (most_switch_ports ≤ most) ⊎ ((switch : List ℕ) → opens_of switch program ≤ most) → (most_switch_ports ≤ most) ⊎ ((switch : List ℕ) → cost_of_units (Opens switch) units ≤ most)
    opened (inl large) = inl large
    opened (inr opens) = inr (λ switch.
        (let sum = costs (Opens switch) in
        let lines_open = all-opened records switch some in
        let less = opens switch in
        omega (arith, sum, lines_open, less)))

pub light-fit : LightScriptsFit
light-fit script program played limits says short names light entries bytes = by light.few
  where
    most-entries : most_entries ≤ limits.entries
    most-entries = entries

    most-bytes : most_bytes ≤ limits.bytes
    most-bytes = bytes

    few-lines : length (flat_map acts_of_unit program.units) ≤ most_script_lines
    few-lines =
        let lines-few : length (flat_map acts_of_unit program.units) ≤ length (lines script) = few-acts script program says in
        let few : length (lines script) ≤ most_script_lines = short in
        omega (arith, lines-few, few)

    by : (frames_put_in program played ≤ most_light_frames) ⊎ ((frames_put_in program played ≤ most_narrow_frames) × ((switch : List ℕ) → opens_of switch program ≤ most_narrow_ports))
        → TasksFit program (map frames_of played) limits
    by (inl few) =
        tasks-fit program played limits most_switch_ports most_light_frames most_script_lines most_light_bytes names light.plain (hex-fits script program says) (inl (omega arith)) few few-lines light.short
        (omega (arith, most-entries)) (omega (arith, most-bytes))
    by (inr both) =
        tasks-fit program played limits most_narrow_ports most_narrow_frames most_script_lines most_light_bytes names light.plain (hex-fits script program says) (inr both.1) both.0 few-lines light.short
        (omega (arith, most-entries)) (omega (arith, most-bytes))
