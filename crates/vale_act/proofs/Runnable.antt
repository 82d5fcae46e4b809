-- The units of a script that was accepted can be run.
use Rattle.std.proofs.Common.{ℕ, ◌≡◌, ◌≤◌, Bool, true, false, cond, List, [], ◌∷◌, ◌++◌, Option, Some, None, is_some, refl, sym, ap, ◌∙◌, subst}
use Rattle.std.specs.Prelude.{if◌then◌else◌, length}
use Rattle.std.specs.List.{AllByRecursion}
use Rattle.vale_script.specs.declared.script.Act.{Act}
use Rattle.vale_script.specs.declared.script.Act.TheVariants as acts
use Rattle.vale_script.specs.declared.script.Line.{Line}
use Rattle.vale_script.specs.declared.script.Unit.{Unit as Part}
use Rattle.vale_script.specs.declared.script.Unit.TheVariants as parts
use Rattle.vale_script.specs.Replay.{act_says, line_says, lines_say, unit_says, units_say, user_name, replayed, MeetNoCause}
use Rattle.vale_script.specs.Rules.{Draft, Opened, after, block_with, cause_of, nothing_said}
use Rattle.vale_script.specs.Script.{Program}
use Rattle.vale_script.specs.Sound.{IsSound, IsSoundLine, IsSoundUnit}
use Rattle.vale_script.specs.Statements.{Statement, Begin, End}
use Rattle.vale_player.specs.Deeds.{AreDoable, IsDoableUnit}
use Rattle.vale_act.specs.Seats.{IsDeed, IsDeedLine, IsRunnable}
use Rattle.vale_player.proofs.SoundScripts.{sound-doable}

front-of : (draft : Draft) (said more : List Statement) → MeetNoCause draft (said ++ more) → MeetNoCause draft said
front-of draft [] more none = tt
front-of draft (first ∷ said) more none = (none.0, front-of (after draft 0 first) said more none.1)

behind-of : (draft : Draft) (said more : List Statement) → MeetNoCause draft (said ++ more) → MeetNoCause (replayed draft said) more
behind-of draft [] more none = none
behind-of draft (first ∷ said) more none = behind-of (after draft 0 first) said more none.1

passed-by : {X : Type 0} (b : Bool) (x : X) (o : Option X) → cond b (Some x) o ≡ None → b ≡ false
passed-by true x o e = absurd cc
passed-by false x o e = refl

-- in a block nobody comes
deed-in-block : (draft : Draft) (user : List ℕ) (act : Act) → is_some draft.block ≡ true → cause_of draft (act_says user act) ≡ None → IsDeed act
deed-in-block draft user acts.Enter block none = let clash : true ≡ false = sym block ∙ passed-by (is_some draft.block) _ _ none in absurd cc
deed-in-block draft user _ block none = tt

with-more : (o : Option Opened) (line : Line) → is_some o ≡ true → is_some (block_with o line) ≡ true
with-more None line is = absurd cc
with-more (Some block) line is = refl

still-in-block : (draft : Draft) (user : List ℕ) (act : Act) → IsDeed act → is_some draft.block ≡ true → is_some (after draft 0 (act_says user act)).block ≡ true
still-in-block draft user acts.Enter deed block = absurd deed
still-in-block draft user _ deed block = with-more draft.block _ block

lines-deeds : (users : List (List ℕ)) (draft : Draft) (lines : List Line) → is_some draft.block ≡ true → MeetNoCause draft (lines_say users lines) → AllByRecursion IsDeedLine lines
lines-deeds users draft [] block none = tt
lines-deeds users draft (line ∷ lines) block none =
    let user = user_name users line.user in
    let deed = deed-in-block draft user line.act block none.0 in
    (deed, lines-deeds users (after draft 0 (line_says users line)) lines (still-in-block draft user line.act deed block) none.1)

unit-runnable : (count : ℕ) (users : List (List ℕ)) (draft : Draft) (unit : Part) → MeetNoCause draft (unit_says users unit) → IsSoundUnit count unit → IsDoableUnit unit → IsRunnable count unit
unit-runnable count users draft (parts.Single line) none sound doable = (sound.least, (sound.most, doable))
unit-runnable count users draft (parts.Block lines) none sound doable = (doable, lines-deeds users (after draft 0 Begin) lines refl (front-of (after draft 0 Begin) (lines_say users lines) (End ∷ []) none.1))

units-runnable : (count : ℕ) (users : List (List ℕ)) (draft : Draft) (units : List Part) → MeetNoCause draft (units_say users units) → AllByRecursion (IsSoundUnit count) units → AllByRecursion IsDoableUnit units → AllByRecursion (IsRunnable count) units
units-runnable count users draft [] none sound doable = tt
units-runnable count users draft (unit ∷ units) none sound doable = (
  unit-runnable count users draft unit (front-of draft (unit_says users unit) (units_say users units) none) sound.0 doable.0,
  units-runnable count users (replayed draft (unit_says users unit)) units (behind-of draft (unit_says users unit) (units_say users units) none) sound.1 doable.1,
)

pub sound-runs : (program : Program) → IsSound program → AllByRecursion (IsRunnable (length program.users)) program.units
sound-runs program sound = units-runnable (length program.users) program.users nothing_said program.units sound.causes sound.units_are (sound-doable program sound)
