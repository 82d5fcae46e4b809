-- The frame of each `hex` line of an accepted script fits a buffer.
use Rattle.std.proofs.Common.{ℕ, ◌+◌, ◌≡◌, List, [], ◌∷◌, ◌++◌, map, length, flat_map, unwrap_or, Option, Some, None, Result, Ok, Err, refl, sym, subst}
use Rattle.std.specs.List.{AllByRecursion as Each}
use Rattle.std.specs.Str.Lines.{lines}
use Rattle.std.proofs.lemmas.Grind.{flat_map-append}
use Rattle.std.proofs.lemmas.List.{map-append}
use Rattle.nm_types.specs.declared.fault.LineCause.{LineCause}
use Rattle.nm_types.proofs.Lists.{each-joined}
use Rattle.vale_script.specs.declared.script.Act.{Act}
use Rattle.vale_script.specs.declared.script.Act.TheVariants as acts
use Rattle.vale_script.specs.declared.script.Line.{Line}
use Rattle.vale_script.specs.declared.script.Unit.{Unit as Part}
use Rattle.vale_script.specs.declared.script.Unit.TheVariants as parts
use Rattle.vale_script.specs.Grammar.{Fault, judged, after_statement, goes_on, said_from, script_by, script_of}
use Rattle.vale_script.specs.Rules.{Draft, Opened, nothing_said, cause_of, units_with, block_with, ended_units, with_act, after, finished}
use Rattle.vale_script.specs.Script.{Program}
use Rattle.vale_script.specs.Statements.{Statement, Nothing, Pool, NewUser, Begin, End, Does, line_said}
use Rattle.vale_script.proofs.HexLines.{HexFits, SaidFits, line-fits}
use Rattle.vale_captures.proofs.FewLines.{ended-units}
use Rattle.vale_replay.specs.Replay.{act_of}
use Rattle.vale_replay.specs.Saved.{acts_of_unit}

abbrev UnitsFit : List Part → Type 0
UnitsFit units = Each HexFits (flat_map acts_of_unit units)

abbrev BlockFits : Option Opened → Type 0
BlockFits None = Unit {0}
BlockFits (Some block) = Each HexFits (map act_of block.lines)

record DraftFits (draft : Draft) : Type 0 where
  units : UnitsFit draft.units
  block : BlockFits draft.block

unit-more : (units : List Part) (unit : Part) → UnitsFit units → Each HexFits (acts_of_unit unit) → UnitsFit (units ++ unit ∷ [])
unit-more units unit all here =
    subst (Each HexFits) (sym (flat_map-append acts_of_unit units (unit ∷ [])))
    (each-joined HexFits (flat_map acts_of_unit units) (flat_map acts_of_unit (unit ∷ [])) all (each-joined HexFits (acts_of_unit unit) [] here tt))

act-fits : (d : Draft) (user : List ℕ) (act : Act) → DraftFits d → DraftFits (with_act d user act)
act-fits d user acts.Enter fits = fits
act-fits d user (acts.Open name tx rx extra) fits = record { units = fits.units; block = fits.block }
act-fits d user (acts.Put name count to from len fill) fits = fits
act-fits d user (acts.Hex name bytes) fits = fits
act-fits d user (acts.Play name file batch) fits = record { units = fits.units; block = fits.block }
act-fits d user (acts.Tx name) fits = fits
act-fits d user (acts.Rx name keep) fits = fits
act-fits d user (acts.Fwd from to count) fits = fits
act-fits d user (acts.Poke name side slot field value) fits = fits
act-fits d user (acts.Move name side head cur) fits = fits
act-fits d user (acts.Swap name side slot other other_side other_slot quiet) fits = fits
act-fits d user (acts.Extra name i j) fits = fits
act-fits d user (acts.Watch monitor target sides) fits = fits
act-fits d user (acts.Stat name) fits = fits
act-fits d user (acts.Save name file) fits = record { units = fits.units; block = fits.block }
act-fits d user (acts.Close name) fits = record { units = fits.units; block = fits.block }

units-fit : (units : List Part) (block : Option Opened) (line : Line) → HexFits line.act → UnitsFit units → UnitsFit (units_with block line units)
units-fit units None line here all = unit-more units (parts.Single line) all (here, tt)
units-fit units (Some block) line here all = all

block-fits : (block : Option Opened) (line : Line) → HexFits line.act → BlockFits block → BlockFits (block_with block line)
block-fits None line here all = tt
block-fits (Some block) line here all =
    subst (Each HexFits) (sym (map-append act_of block.lines (line ∷ []))) (each-joined HexFits (map act_of block.lines) (line.act ∷ []) all (here, tt))

end-fits : (units : List Part) (block : Option Opened) → UnitsFit units → BlockFits block → UnitsFit (ended_units block units)
end-fits units None all last = all
end-fits units (Some block) all last = unit-more units (parts.Block block.lines) all last

after-fits : (d : Draft) (at : ℕ) (said : Statement) → SaidFits said → DraftFits d → DraftFits (after d at said)
after-fits d at Nothing here fits = fits
after-fits d at (Pool size) here fits = record { units = fits.units; block = fits.block }
after-fits d at (NewUser name) here fits =
    record { units = unit-more d.units (parts.Single (record { at = at; user = length d.users + 1; act = acts.Enter })) fits.units (tt, tt); block = fits.block }
after-fits d at Begin here fits = record { units = fits.units; block = tt }
after-fits d at End here fits = record { units = end-fits d.units d.block fits.units fits.block; block = tt }
after-fits d at (Does user act) here fits =
    let e : Draft = with_act d user act in
    let line : Line = record { at = at; user = unwrap_or (d.numbers user) 0; act = act } in
    let all : DraftFits e = act-fits d user act fits in
    record { units = units-fit e.units e.block line here all.units; block = block-fits e.block line here all.block }

said-judged : (at : ℕ) (d : Draft) (ls : List (List ℕ)) (r : Draft) (said : Statement) (cause : Option LineCause) → SaidFits said → DraftFits d
    → ((e : Draft) → DraftFits e → said_from (at + 1) e ls ≡ Ok r → DraftFits r)
    → goes_on at (λ next. said_from (at + 1) next ls) (judged cause (after d at said)) ≡ Ok r → DraftFits r
said-judged at d ls r said None here fits rest e = rest (after d at said) (after-fits d at said here fits) e
said-judged at d ls r said (Some cause) here fits rest e = absurd cc

said-next : (at : ℕ) (d : Draft) (ls : List (List ℕ)) (r : Draft) (said : Result Statement LineCause) → ((x : Statement) → said ≡ Ok x → SaidFits x) → DraftFits d
    → ((e : Draft) → DraftFits e → said_from (at + 1) e ls ≡ Ok r → DraftFits r)
    → goes_on at (λ next. said_from (at + 1) next ls) (after_statement d at said) ≡ Ok r → DraftFits r
said-next at d ls r (Err cause) here fits rest e = absurd cc
said-next at d ls r (Ok said) here fits rest e = said-judged at d ls r said (cause_of d said) (here said refl) fits rest e

said-fits : (at : ℕ) (d : Draft) (ls : List (List ℕ)) (r : Draft) → DraftFits d → said_from at d ls ≡ Ok r → DraftFits r
said-fits at d [] r fits is = let same : d ≡ r = cc in subst DraftFits same fits
said-fits at d (line ∷ ls) r fits is = said-next at d ls r (line_said line) (line-fits line) fits (λ e all more. said-fits (at + 1) e ls r all more) is

fits-by : (script : List ℕ) (program : Program) (r : Result Draft Fault) → said_from 1 nothing_said (lines script) ≡ r → script_by r ≡ Ok program → Each HexFits (flat_map acts_of_unit program.units)
fits-by script program (Err fault) is e = absurd cc
fits-by script program (Ok d) is e =
    subst UnitsFit (ended-units d program (finished d) refl e) (said-fits 1 nothing_said (lines script) d (record { units = tt; block = tt }) is).units

pub hex-fits : (script : List ℕ) (program : Program) → script_of script ≡ Ok program → Each HexFits (flat_map acts_of_unit program.units)
hex-fits script program is = fits-by script program (said_from 1 nothing_said (lines script)) refl is
