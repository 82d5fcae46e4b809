-- A script has no more lines that do something than it has lines.
use Rattle.std.proofs.Common.{ℕ, suc, ◌+◌, ◌≤◌, ◌≡◌, List, [], ◌∷◌, ◌++◌, length, flat_map, Option, Some, None, Result, Ok, Err, unwrap_or, refl, ◌∙◌, ap, subst, arith, length-append}
use Rattle.std.proofs.lemmas.Grind.{flat_map-append}
use Rattle.std.proofs.lemmas.List.{length-map, append-nil}
use Rattle.std.specs.Str.Lines.{lines}
use Rattle.nm_types.specs.Limits.{default_pool}
use Rattle.nm_types.specs.declared.fault.LineCause.{LineCause}
use Rattle.vale_script.specs.declared.script.Act.{Act}
use Rattle.vale_script.specs.declared.script.Act.TheVariants as acts
use Rattle.vale_script.specs.declared.script.Line.{Line}
use Rattle.vale_script.specs.declared.script.Unit.{Unit as Part}
use Rattle.vale_script.specs.declared.script.Unit.TheVariants as parts
use Rattle.vale_script.specs.Grammar.{Fault, ended, judged, after_statement, goes_on, said_from, script_by, script_of}
use Rattle.vale_script.specs.Rules.{Draft, Opened, nothing_said, cause_of, units_with, block_with, ended_units, with_act, after, finished, finished_by}
use Rattle.vale_script.specs.Script.{Program}
use Rattle.vale_script.specs.Statements.{Statement, Nothing, Pool, NewUser, Begin, End, Does, line_said}
use Rattle.vale_replay.specs.Replay.{act_of}
use Rattle.vale_replay.specs.Saved.{acts_of_unit}

abbrev in_units : List Part → ℕ
in_units units = length (flat_map acts_of_unit units)

abbrev in_block : Option Opened → ℕ
in_block None = 0
in_block (Some block) = length block.lines

abbrev so_far : Draft → ℕ
so_far d = in_units d.units + in_block d.block

units-more : (units : List Part) (unit : Part) → in_units (units ++ unit ∷ []) ≡ in_units units + length (acts_of_unit unit)
units-more units unit =
    let both = ap length (flat_map-append acts_of_unit units (unit ∷ [])) in
    let sum = length-append (flat_map acts_of_unit units) (flat_map acts_of_unit (unit ∷ [])) in
    let one = ap length (append-nil (acts_of_unit unit)) in
    omega (arith, both, sum, one)

act-same : (d : Draft) (user : List ℕ) (act : Act) → so_far (with_act d user act) ≡ so_far d
act-same d user acts.Enter = refl
act-same d user (acts.Open name tx rx extra) = refl
act-same d user (acts.Put name count to from len fill) = refl
act-same d user (acts.Hex name bytes) = refl
act-same d user (acts.Play name file batch) = refl
act-same d user (acts.Tx name) = refl
act-same d user (acts.Rx name keep) = refl
act-same d user (acts.Fwd from to count) = refl
act-same d user (acts.Poke name side slot field value) = refl
act-same d user (acts.Move name side head cur) = refl
act-same d user (acts.Swap name side slot other other_side other_slot quiet) = refl
act-same d user (acts.Extra name i j) = refl
act-same d user (acts.Watch monitor target sides) = refl
act-same d user (acts.Stat name) = refl
act-same d user (acts.Save name file) = refl
act-same d user (acts.Close name) = refl

line-more : (units : List Part) (block : Option Opened) (line : Line) → in_units (units_with block line units) + in_block (block_with block line) ≤ suc (in_units units + in_block block)
line-more units None line = let more = units-more units (parts.Single line) in omega (arith, more)
line-more units (Some block) line = let more = length-append block.lines (line ∷ []) in omega (arith, more)

end-same : (units : List Part) (block : Option Opened) → in_units (ended_units block units) ≤ in_units units + in_block block
end-same units None = omega arith
end-same units (Some block) =
    let more = units-more units (parts.Block block.lines) in
    let same = length-map block.lines act_of in
    omega (arith, more, same)

after-more : (d : Draft) (at : ℕ) (said : Statement) → so_far (after d at said) ≤ suc (so_far d)
after-more d at Nothing = omega arith
after-more d at (Pool size) = omega arith
after-more d at (NewUser name) = let more = units-more d.units (parts.Single (record { at = at; user = length d.users + 1; act = acts.Enter })) in omega (arith, more)
after-more d at Begin = omega arith
after-more d at End = let same = end-same d.units d.block in omega (arith, same)
after-more d at (Does user act) =
    let e : Draft = with_act d user act in
    let same : so_far e ≡ so_far d = act-same d user act in
    let more : so_far (after d at (Does user act)) ≤ suc (so_far e) = line-more e.units e.block (record { at = at; user = unwrap_or (d.numbers user) 0; act = act }) in
    omega (arith, same, more)

said-judged : (at : ℕ) (d : Draft) (ls : List (List ℕ)) (r : Draft) (said : Statement) (cause : Option LineCause)
    → ((e : Draft) → said_from (at + 1) e ls ≡ Ok r → so_far r ≤ so_far e + length ls)
    → goes_on at (λ next. said_from (at + 1) next ls) (judged cause (after d at said)) ≡ Ok r → so_far r ≤ so_far d + suc (length ls)
said-judged at d ls r said None rest e =
    let more = rest (after d at said) e in
    let here = after-more d at said in
    omega (arith, more, here)
said-judged at d ls r said (Some cause) rest e = absurd cc

said-next : (at : ℕ) (d : Draft) (ls : List (List ℕ)) (r : Draft) (said : Result Statement LineCause)
    → ((e : Draft) → said_from (at + 1) e ls ≡ Ok r → so_far r ≤ so_far e + length ls)
    → goes_on at (λ next. said_from (at + 1) next ls) (after_statement d at said) ≡ Ok r → so_far r ≤ so_far d + suc (length ls)
said-next at d ls r (Err cause) rest e = absurd cc
said-next at d ls r (Ok said) rest e = said-judged at d ls r said (cause_of d said) rest e

said-more : (at : ℕ) (d : Draft) (ls : List (List ℕ)) (r : Draft) → said_from at d ls ≡ Ok r → so_far r ≤ so_far d + length ls
said-more at d [] r is = let same : d ≡ r = cc in subst (λ (x : Draft). so_far x ≤ so_far d + 0) same (omega arith)
said-more at d (line ∷ ls) r is = said-next at d ls r (line_said line) (λ e more. said-more (at + 1) e ls r more) is

program-units : (d : Draft) (block : Option Opened) (program : Program) (all : List ℕ) → finished_by block (record { pool = unwrap_or d.pool default_pool; users = d.users; files = d.played; units = d.units }) ≡ Ok program → d.units ≡ program.units
program-units d None program all e = cc
program-units d (Some block) program all e = absurd cc

pub ended-units : (d : Draft) (program : Program) (r : Result Program ℕ) → finished d ≡ r → ended r ≡ Ok program → d.units ≡ program.units
ended-units d program (Err at) is e = absurd cc
ended-units d program (Ok p) is e =
    let same : p ≡ program = cc in
    program-units d d.block p [] is ∙ ap (λ (q : Program). q.units) same

few-by : (script : List ℕ) (program : Program) (r : Result Draft Fault) → said_from 1 nothing_said (lines script) ≡ r → script_by r ≡ Ok program → length (flat_map acts_of_unit program.units) ≤ length (lines script)
few-by script program (Err fault) is e = absurd cc
few-by script program (Ok d) is e =
    let few = said-more 1 nothing_said (lines script) d is in
    let same = ap in_units (ended-units d program (finished d) refl e) in
    omega (arith, few, same)

pub few-acts : (script : List ℕ) (program : Program) → script_of script ≡ Ok program → length (flat_map acts_of_unit program.units) ≤ length (lines script)
few-acts script program is = few-by script program (said_from 1 nothing_said (lines script)) refl is
