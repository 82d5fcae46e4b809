-- Of the ports that a script saves the frames are kept, whatever its users do.
use Rattle.std.proofs.Common.{◌≡◌, ℕ, Bool, true, false, ◌||◌, List, [], ◌∷◌, ◌++◌, length, map, slice_get, slice_set, Option, Some, None, Result, refl, sym, ◌∙◌, ap, subst}
use Rattle.std.specs.Prelude.{flat_map, bytes_eq}
use Rattle.std.specs.List.{AllByRecursion, cons_option, list_any}
use Rattle.std.proofs.lemmas.Slice.Eq.{bytes_eq-Decides}
use Rattle.nm_types.specs.declared.fault.StepFault.{StepFault}
use Rattle.nm_types.proofs.Lists.{each-front, each-back}
use Rattle.vale_entry.proofs.Each.{each-weaker}
use Rattle.vale_entry.proofs.ListLaws.{each-at}
use Rattle.vale_fabric.specs.Fabrics.{Knowing}
use Rattle.vale_script.specs.declared.script.Act.{Act}
use Rattle.vale_script.specs.declared.script.Act.TheVariants as acts
use Rattle.vale_script.specs.declared.script.Line.{Line}
use Rattle.vale_script.specs.declared.script.Unit.{Unit as Part}
use Rattle.vale_script.specs.Script.{Program}
use Rattle.vale_replay.specs.Replay.{act_of}
use Rattle.vale_replay.specs.Saved.{acts_of_unit}
use Rattle.vale_player.specs.Deeds.{AllSaveNamed, SavesNamed}
use Rattle.vale_player.specs.Kept.{is_one_of}
use Rattle.vale_player.specs.Players.{PlayerState}
use Rattle.vale_act.specs.SavedActs.{name_of_save, names_of_acts, names_saved}
use Rattle.vale_act.specs.Seats.{AllAre, AllKeepNames, AreEach, CanSave, HasActed, HasMet, HasRun, HasTold, KeepsNames, MeetAll, TellAll}
use Rattle.vale_act.specs.declared.seat.Seat.{Seat}
use Rattle.vale_act.specs.declared.seat.Seat.TheVariants.{Away, There, Gone}
use Rattle.vale_act.proofs.BlockRuns.{there-too}

-- ---- the names of a script

or-true : (b : Bool) → b || true ≡ true
or-true true = refl
or-true false = refl

one-more : (names : List (List ℕ)) (one name : List ℕ) → is_one_of names name ≡ true → is_one_of (one ∷ names) name ≡ true
one-more names one name is = ap (λ (b : Bool). bytes_eq one name || b) is ∙ or-true (bytes_eq one name)

saves-more : (names : List (List ℕ)) (one : List ℕ) (act : Act) → SavesNamed names act → SavesNamed (one ∷ names) act
saves-more names one (acts.Save name file) is = one-more names one name is
saves-more names one _ is = tt

saves-behind : (o : Option (List ℕ)) (names : List (List ℕ)) (act : Act) → SavesNamed names act → SavesNamed (cons_option o names) act
saves-behind None names act is = is
saves-behind (Some one) names act is = saves-more names one act is

saves-first : (names : List (List ℕ)) (act : Act) → SavesNamed (cons_option (name_of_save act) names) act
saves-first names (acts.Save name file) = ap (λ (b : Bool). b || is_one_of names name) ((bytes_eq-Decides name name).1 refl)
saves-first names _ = tt

-- acts save the ports that they name
acts-named : (list : List Act) → AllSaveNamed (names_of_acts list) list
acts-named [] = tt
acts-named (act ∷ list) =
    let rest = names_of_acts list in
    (saves-first rest act, each-weaker (SavesNamed rest) (SavesNamed (cons_option (name_of_save act) rest)) (saves-behind (name_of_save act) rest) list (acts-named list))

units-named : (names : List (List ℕ)) (units : List Part) → AllSaveNamed names (flat_map acts_of_unit units) → AllByRecursion (λ (unit : Part). AllSaveNamed names (acts_of_unit unit)) units
units-named names [] all = tt
units-named names (unit ∷ units) all =
    let rest = flat_map acts_of_unit units in
    (each-front (SavesNamed names) (acts_of_unit unit) rest all, units-named names units (each-back (SavesNamed names) (acts_of_unit unit) rest all))

-- and so does each unit of a script
pub unit-named : (program : Program) (names : List (List ℕ)) (i : ℕ) (unit : Part) → names ≡ names_saved program → slice_get program.units i ≡ Some unit → AllSaveNamed names (acts_of_unit unit)
unit-named program names i unit is there =
    let all : AllSaveNamed names (flat_map acts_of_unit program.units) =
    subst (λ (ns : List (List ℕ)). AllSaveNamed ns (flat_map acts_of_unit program.units)) (sym is) (acts-named (flat_map acts_of_unit program.units)) in
    each-at (λ (part : Part). AllSaveNamed names (acts_of_unit part)) program.units i unit (units-named names program.units all) there

-- ---- what a seat keeps

module _ (names : List (List ℕ)) where
  pub kept-met : (v : Knowing) (before after : Seat) → HasMet v before after → KeepsNames names before → KeepsNames names after
  kept-met v (There p fault) after met keeps = subst (KeepsNames names) (sym met.1.0) (ap (λ (x : PlayerState). x.names) met.1.1.same ∙ keeps)
  kept-met v Away after met keeps = subst (KeepsNames names) (sym met) tt
  kept-met v (Gone saves) after met keeps = subst (KeepsNames names) (sym met) tt

  pub kept-told : (v : Knowing) (before after : Seat) → HasTold v before after → KeepsNames names before → KeepsNames names after
  kept-told v (There p fault) after told keeps = subst (KeepsNames names) (sym told.1.0) (ap (λ (x : PlayerState). x.names) told.1.1.same ∙ keeps)
  kept-told v Away after told keeps = subst (KeepsNames names) (sym told) tt
  kept-told v (Gone saves) after told keeps = subst (KeepsNames names) (sym told) tt

  kept-ran : (records : List ℕ → List (List ℕ)) (lines : List Line) (before after : Seat) → HasRun records lines before after → KeepsNames names before → KeepsNames names after
  kept-ran records lines (There p fault) after ran keeps = subst (KeepsNames names) (sym ran.1.1.0) (ran.1.1.1.still.names ∙ keeps)
  kept-ran records lines Away after ran keeps = subst (KeepsNames names) (sym ran) tt
  kept-ran records lines (Gone saves) after ran keeps = subst (KeepsNames names) (sym ran) tt

  pub kept-acted : (records : List ℕ → List (List ℕ)) (act : Act) (done : Result (Unit {0}) StepFault) (before after : Seat) → HasActed records act done before after → KeepsNames names before → KeepsNames names after
  kept-acted records act done (There p fault) after acted keeps = subst (KeepsNames names) (sym acted.1.0) (acted.1.1.still.names ∙ keeps)
  kept-acted records act done Away after acted keeps = subst (KeepsNames names) (sym acted.0) tt
  kept-acted records act done (Gone saves) after acted keeps = subst (KeepsNames names) (sym acted.0) tt

  -- ---- all seats

  each-keeps : (R : ℕ → Seat → Seat → Type 0) (befores afters : List Seat) → ((place : ℕ) (before after : Seat) → R place before after → KeepsNames names before → KeepsNames names after)
      → AreEach R befores afters → AllKeepNames names befores → AllKeepNames names afters
  each-keeps R befores afters keeps each all place seat at =
      let was = there-too afters befores place seat (sym each.len) at in
      keeps place was.0 seat (each.each place was.0 seat was.1 at) (all place was.0 was.1)

  pub all-met : (v w : Knowing) (befores afters : List Seat) → MeetAll v w befores afters → AllKeepNames names befores → AllKeepNames names afters
  all-met v w befores afters met all = each-keeps (λ place. HasMet v) befores afters (λ place before after. kept-met v before after) met.seats all

  pub all-told : (v w : Knowing) (befores afters : List Seat) → TellAll v w befores afters → AllKeepNames names befores → AllKeepNames names afters
  all-told v w befores afters told all = each-keeps (λ place. HasTold w) befores afters (λ place before after. kept-told w before after) told.seats all

  pub all-ran : (records : List ℕ → List (List ℕ)) (lines : List Line) (befores afters : List Seat) → AreEach (λ place. HasRun records lines) befores afters → AllKeepNames names befores → AllKeepNames names afters
  all-ran records lines befores afters ran all = each-keeps (λ place. HasRun records lines) befores afters (λ place before after. kept-ran records lines before after) ran all

  -- ---- so it can save

  can-save : (lines : List Line) (seat : Seat) → AllSaveNamed names (map act_of lines) → KeepsNames names seat → CanSave lines seat
  can-save lines (There p fault) saves keeps = subst (λ (ns : List (List ℕ)). AllSaveNamed ns (map act_of lines)) (sym keeps) saves
  can-save lines Away saves keeps = tt
  can-save lines (Gone files) saves keeps = tt

  pub all-can-save : (lines : List Line) (seats : List Seat) → AllSaveNamed names (map act_of lines) → AllKeepNames names seats → AllAre (λ place. CanSave lines) seats
  all-can-save lines seats saves all place seat at = can-save lines seat saves (all place seat at)

  -- nobody has come
  pub away-keep : (seats : List Seat) → AllAre (λ place seat. seat ≡ Away) seats → AllKeepNames names seats
  away-keep seats away place seat at = subst (KeepsNames names) (sym (away place seat at)) tt
