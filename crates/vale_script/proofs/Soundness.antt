-- What the lines of an accepted script keep.
use Rattle.std.specs.List.{AllByRecursion as Each}
use Rattle.std.proofs.Common.{ℕ, ◌+◌, ◌<◌, ◌≤◌, ◌≡◌, Bool, true, false, cond, ◌||◌, not, nat_le, List, [], ◌∷◌, ◌++◌, length, Option, Some, None, is_some, unwrap_or, IfSome, Ok, bytes_eq, refl, sym, ap, subst, ◌∙◌, arith, length-append, append-nil}
use Rattle.std.proofs.lemmas.Bool.{leb-false}
use Rattle.std.proofs.lemmas.Slice.Eq.{bytes_eq-Decides}
use Rattle.std.specs.Bool.{Decides}
use Rattle.nm_types.specs.declared.fault.LineCause.{LineCause}
use Rattle.nm_types.specs.declared.fault.LineCause.TheVariants.{User, Order, Twice}
use Rattle.vale_script.specs.declared.script.Act.{Act}
use Rattle.vale_script.specs.declared.script.Act.TheVariants as acts
use Rattle.vale_script.specs.declared.script.Line.{Line}
use Rattle.vale_script.specs.declared.script.Unit.{Unit as Part}
use Rattle.vale_script.specs.declared.script.Unit.TheVariants as parts
use Rattle.vale_script.specs.Keeps.{IsPoolRange, IsSoundStatement, IsUserNumber, IsNumberOf, IsSoundBlock, HasSoundParts, IsReplayedBy, IsSoundDraft, opened_says, draft_says}
use Rattle.vale_script.specs.Replay.{units_say}
use Rattle.vale_script.specs.Rules.{Draft, Opened, nothing_said, user_cause, act_cause, cause_of, with_act, with_line, units_with, block_with, with_user, ended_units, does_act, after, finished_by, finished}
use Rattle.vale_script.specs.Script.{Program}
use Rattle.vale_script.specs.Sound.{IsUserName, IsSoundDeed, IsSoundAct, IsSoundLine, IsSoundUnit, IsSound}
use Rattle.vale_script.specs.Statements.{Statement, Nothing, Pool, NewUser, Begin, End, Does}
use Rattle.vale_script.specs.Tables.{updated}
use Rattle.vale_script.proofs.Replays.{IsUnits, replay_more}
use Rattle.vale_script.proofs.Sayings.{says_line, says_act, says_deed, name_more, name_last, says_user, says_begin, says_end}

each-push : {X : Type 0} (P : X → Type 0) (xs : List X) (x : X) → Each P xs → P x → Each P (xs ++ x ∷ [])
each-push P [] x all here = (here, tt)
each-push P (y ∷ xs) x all here = (all.0, each-push P xs x all.1 here)

lines-more : (users more : ℕ) (lines : List Line) → users ≤ more → Each (IsSoundLine users) lines → Each (IsSoundLine more) lines
lines-more users more [] few all = tt
lines-more users more (line ∷ lines) few all =
    let most = all.0.most in
    (record { least = all.0.least; most = omega (arith, most, few); act = all.0.act }, lines-more users more lines few all.1)

unit-more : (users more : ℕ) (part : Part) → users ≤ more → IsSoundUnit users part → IsSoundUnit more part
unit-more users more (parts.Single line) few sound = let most = sound.most in record { least = sound.least; most = omega (arith, most, few); act = sound.act }
unit-more users more (parts.Block lines) few sound = lines-more users more lines few sound

units-more : (users more : ℕ) (units : List Part) → users ≤ more → Each (IsSoundUnit users) units → Each (IsSoundUnit more) units
units-more users more [] few all = tt
units-more users more (part ∷ units) few all = (unit-more users more part few all.0, units-more users more units few all.1)

-- A line of a user.

units-sound : (users : ℕ) (block : Option Opened) (line : Line) (units : List Part) → IsSoundLine users line → Each (IsSoundUnit users) units → Each (IsSoundUnit users) (units_with block line units)
units-sound users None line units here all = each-push (IsSoundUnit users) units (parts.Single line) all here
units-sound users (Some block) line units here all = all

block-sound : (users : ℕ) (block : Option Opened) (line : Line) → IsSoundLine users line → IfSome block (IsSoundBlock users) → IfSome (block_with block line) (IsSoundBlock users)
block-sound users None line here all = tt
block-sound users (Some block) line here all = each-push (IsSoundLine users) block.lines line all here

line-sound : (draft : Draft) (line : Line) → HasSoundParts draft → IsSoundLine (length draft.users) line → HasSoundParts (with_line draft line)
line-sound draft line sound here = record {
  pool = sound.pool;
  few = sound.few;
  names = sound.names;
  numbers = sound.numbers;
  units = units-sound (length draft.users) draft.block line draft.units here sound.units;
  block = block-sound (length draft.users) draft.block line here sound.block;
  named = sound.named;
}

act-sound : (draft : Draft) (user : List ℕ) (act : Act) → HasSoundParts draft → HasSoundParts (with_act draft user act)
act-sound draft user (acts.Open name tx rx extra) sound = record { pool = sound.pool; few = sound.few; names = sound.names; numbers = sound.numbers; units = sound.units; block = sound.block; named = sound.named }
act-sound draft user (acts.Close name) sound = record { pool = sound.pool; few = sound.few; names = sound.names; numbers = sound.numbers; units = sound.units; block = sound.block; named = sound.named }
act-sound draft user (acts.Play name file batch) sound = record { pool = sound.pool; few = sound.few; names = sound.names; numbers = sound.numbers; units = sound.units; block = sound.block; named = sound.named }
act-sound draft user (acts.Save name file) sound = record { pool = sound.pool; few = sound.few; names = sound.names; numbers = sound.numbers; units = sound.units; block = sound.block; named = sound.named }
act-sound draft user act sound = sound

-- the act leaves users and numbers as they were
act-keeps : (draft : Draft) (user : List ℕ) (act : Act) → ((with_act draft user act).users ≡ draft.users)
act-keeps draft user (acts.Open name tx rx extra) = refl
act-keeps draft user (acts.Close name) = refl
act-keeps draft user (acts.Play name file batch) = refl
act-keeps draft user (acts.Save name file) = refl
act-keeps draft user act = refl

number-of : (users : ℕ) (number : Option ℕ) → is_some number ≡ true → IfSome number (IsUserNumber users) → IsUserNumber users (unwrap_or number 0)
number-of users None there range = absurd cc
number-of users (Some n) there range = range

some-number : (b : Bool) (cause : LineCause) (rest : Option LineCause) → cond (not b) (Some cause) rest ≡ None → b ≡ true
some-number true cause rest e = refl
some-number false cause rest e = absurd cc

declared : (draft : Draft) (user : List ℕ) (act : Act) → act_cause draft user act ≡ None → is_some (draft.numbers user) ≡ true
declared draft user act none = some-number (is_some (draft.numbers user)) User _ none

deed-sound : (act : Act) → IsSoundDeed act → IsSoundAct act
deed-sound acts.Enter here = tt
deed-sound act here = here

does-parts : (draft : Draft) (at : ℕ) (user : List ℕ) (act : Act) → HasSoundParts draft → IsSoundDeed act → act_cause draft user act ≡ None → HasSoundParts (does_act draft at user act)
does-parts draft at user act sound here none =
    let range = number-of (length draft.users) (draft.numbers user) (declared draft user act none) (sound.numbers user) in
    let line : Line = record { at = at; user = unwrap_or (draft.numbers user) 0; act = act } in
    let good : IsSoundLine (length draft.users) line = record { least = range.0; most = range.1; act = deed-sound act here } in
    line-sound (with_act draft user act) line (act-sound draft user act sound)
    (subst (λ (users : List (List ℕ)). IsSoundLine (length users) line) (sym (act-keeps draft user act)) good)

-- the statement that a line adds to what a draft says
adds : (draft : Draft) (at : ℕ) (said : Statement) → IsUnits said → IsSoundDraft draft → cause_of draft said ≡ None → HasSoundParts (after draft at said) → draft_says (after draft at said) ≡ draft_says draft ++ said ∷ [] → IsSoundDraft (after draft at said)
adds draft at said is sound none kept says = record {
  parts = kept;
  replay = subst (λ (all : List Statement). IsReplayedBy (after draft at said) all) (sym says) (replay_more draft at (draft_says draft) said is sound.replay none);
}

does-sound : (draft : Draft) (at : ℕ) (user : List ℕ) (act : Act) → IsSoundDraft draft → IsSoundDeed act → act_cause draft user act ≡ None → IsSoundDraft (does_act draft at user act)
does-sound draft at user act sound here none =
    let line : Line = record { at = at; user = unwrap_or (draft.numbers user) 0; act = act } in
    let deed = says_deed draft.users user (draft.numbers user) act here (declared draft user act none) (sound.parts.named user) in
    adds draft at (Does user act) tt sound none (does-parts draft at user act sound.parts here none)
    (says_act draft user act line ∙ says_line draft.users draft.block draft.units line
    ∙ ap (λ (said : Statement). draft_says draft ++ said ∷ []) deed)

-- A new user.

some-more : (number : Option ℕ) (users more : ℕ) → users ≤ more → IfSome number (IsUserNumber users) → IfSome number (IsUserNumber more)
some-more None users more few range = tt
some-more (Some n) users more few range = let most = range.1 in (range.0, omega (arith, most, few))

blocks-more : (block : Option Opened) (users more : ℕ) → users ≤ more → IfSome block (IsSoundBlock users) → IfSome block (IsSoundBlock more)
blocks-more None users more few all = tt
blocks-more (Some block) users more few all = lines-more users more block.lines few all

numbers-with : (numbers : List ℕ → Option ℕ) (name other : List ℕ) (count : ℕ) (b : Bool) → IfSome (numbers other) (IsUserNumber count) → IfSome (cond b (Some (count + 1)) (numbers other)) (IsUserNumber (count + 1))
numbers-with numbers name other count true range = (omega arith, omega arith)
numbers-with numbers name other count false range = some-more (numbers other) count (count + 1) (omega arith) range

not-full : (block number full : Bool) (x y : LineCause) → cond block (Some x) (cond (number || full) (Some y) None) ≡ None → full ≡ false
not-full true number full x y e = absurd cc
not-full false true full x y e = absurd cc
not-full false false true x y e = absurd cc
not-full false false false x y e = refl

no-block : (block : Bool) (rest : Option LineCause) → cond block (Some Order) rest ≡ None → block ≡ false
no-block true rest e = absurd cc
no-block false rest e = refl

a-block : (block : Bool) → cond block None (Some Order) ≡ None → block ≡ true
a-block true e = refl
a-block false e = absurd cc

room-for : (draft : Draft) (name : List ℕ) → user_cause draft name ≡ None → length draft.users < 64
room-for draft name none =
    let over = leb-false 64 (length draft.users) (not-full (is_some draft.block) (is_some (draft.numbers name)) (nat_le 64 (length draft.users)) Order Twice none) in
    omega (arith, over)

named-more : (users : List (List ℕ)) (name other : List ℕ) (number : Option ℕ) → IfSome number (IsUserNumber (length users)) → IfSome number (IsNumberOf users other) → IfSome number (IsNumberOf (users ++ name ∷ []) other)
named-more users name other None range named = tt
named-more users name other (Some n) range named = name_more users (name ∷ []) n range.0 range.1 ∙ named

named-with : (users : List (List ℕ)) (numbers : List ℕ → Option ℕ) (name other : List ℕ) (b : Bool) → Decides b (name ≡ other) → IfSome (numbers other) (IsUserNumber (length users)) → IfSome (numbers other) (IsNumberOf users other) → IfSome (cond b (Some (length users + 1)) (numbers other)) (IsNumberOf (users ++ name ∷ []) other)
named-with users numbers name other true same range named = name_last users name ∙ same.0 refl
named-with users numbers name other false same range named = named-more users name other (numbers other) range named

user-parts : (draft : Draft) (at : ℕ) (name : List ℕ) → HasSoundParts draft → IsUserName name → length draft.users < 64 → HasSoundParts (with_user draft at name)
user-parts draft at name sound here room =
    let count : length (draft.users ++ name ∷ []) ≡ length draft.users + 1 = omega (arith, length-append draft.users (name ∷ [])) in
    let line : Line = record { at = at; user = length draft.users + 1; act = acts.Enter } in
    record {
      pool = sound.pool;
      few = omega (arith, count, room);
      names = each-push IsUserName draft.users name sound.names here;
      numbers = λ other. subst (λ (n : ℕ). IfSome (updated draft.numbers name (Some (length draft.users + 1)) other) (IsUserNumber n)) (sym count) (numbers-with draft.numbers name other (length draft.users) (bytes_eq name other) (sound.numbers other));
      units = subst (λ (n : ℕ). Each (IsSoundUnit n) (draft.units ++ parts.Single line ∷ [])) (sym count)
          (each-push (IsSoundUnit (length draft.users + 1)) draft.units (parts.Single line) (units-more (length draft.users) (length draft.users + 1) draft.units (omega arith) sound.units) (record { least = omega arith; most = omega arith; act = tt }));
      block = subst (λ (n : ℕ). IfSome draft.block (IsSoundBlock n)) (sym count) (blocks-more draft.block (length draft.users) (length draft.users + 1) (omega arith) sound.block);
      named = λ other. named-with draft.users draft.numbers name other (bytes_eq name other) (bytes_eq-Decides name other) (sound.numbers other) (sound.named other);
    }

user-sound : (draft : Draft) (at : ℕ) (name : List ℕ) → IsSoundDraft draft → IsUserName name → user_cause draft name ≡ None → IsSoundDraft (with_user draft at name)
user-sound draft at name sound here none =
    adds draft at (NewUser name) tt sound none (user-parts draft at name sound.parts here (room-for draft name none))
    (says_user draft.users name draft.block draft.units at (no-block (is_some draft.block) _ none) sound.parts.units)

ended-sound : (users : ℕ) (block : Option Opened) (units : List Part) → IfSome block (IsSoundBlock users) → Each (IsSoundUnit users) units → Each (IsSoundUnit users) (ended_units block units)
ended-sound users None units here all = all
ended-sound users (Some block) units here all = each-push (IsSoundUnit users) units (parts.Block block.lines) all here

begin-parts : (draft : Draft) (at : ℕ) → HasSoundParts draft → HasSoundParts (after draft at Begin)
begin-parts draft at sound = record { pool = sound.pool; few = sound.few; names = sound.names; numbers = sound.numbers; units = sound.units; block = tt; named = sound.named }

end-parts : (draft : Draft) (at : ℕ) → HasSoundParts draft → HasSoundParts (after draft at End)
end-parts draft at sound = record { pool = sound.pool; few = sound.few; names = sound.names; numbers = sound.numbers; units = ended-sound (length draft.users) draft.block draft.units sound.block sound.units; block = tt; named = sound.named }

pool-parts : (draft : Draft) (at size : ℕ) → IsPoolRange size → HasSoundParts draft → HasSoundParts (after draft at (Pool size))
pool-parts draft at size here sound = record { pool = here; few = sound.few; names = sound.names; numbers = sound.numbers; units = sound.units; block = sound.block; named = sound.named }

-- the pool's size is no matter of a replay
pool-replay : (draft : Draft) (at size : ℕ) (said : List Statement) → IsReplayedBy draft said → IsReplayedBy (after draft at (Pool size)) said
pool-replay draft at size said r = record {
  causes = r.causes;
  alike = record { users = r.alike.users; numbers = r.alike.numbers; ports = r.alike.ports; files = r.alike.files; played = r.alike.played; block = r.alike.block };
}

-- a line that is not bad leaves a sound draft
pub after_sound : (draft : Draft) (at : ℕ) (said : Statement) → IsSoundDraft draft → IsSoundStatement said → cause_of draft said ≡ None → IsSoundDraft (after draft at said)
after_sound draft at Nothing sound here none = sound
after_sound draft at (Pool size) sound here none = record { parts = pool-parts draft at size here sound.parts; replay = pool-replay draft at size (draft_says draft) sound.replay }
after_sound draft at (NewUser name) sound here none = user-sound draft at name sound here none
after_sound draft at Begin sound here none =
    adds draft at Begin tt sound none (begin-parts draft at sound.parts) (says_begin draft.users draft.block draft.units (no-block (is_some draft.block) None none))
after_sound draft at End sound here none =
    adds draft at End tt sound none (end-parts draft at sound.parts) (says_end draft.users draft.block draft.units (a-block (is_some draft.block) none))
after_sound draft at (Does user act) sound here none = does-sound draft at user act sound here none

pub nothing_sound : IsSoundDraft nothing_said
nothing_sound = record {
  parts = record { pool = tt; few = omega arith; names = tt; numbers = λ name. tt; units = tt; block = tt; named = λ name. tt };
  replay = record { causes = tt; alike = record { users = refl; numbers = refl; ports = refl; files = refl; played = refl; block = refl } };
}

pool-range : (pool : Option ℕ) → IfSome pool IsPoolRange → IsPoolRange (unwrap_or pool 8192)
pool-range None range = (omega arith, omega arith)
pool-range (Some size) range = range

program-sound : (draft : Draft) → HasSoundParts draft → IsReplayedBy draft (units_say draft.users draft.units) → IsSound (record { pool = unwrap_or draft.pool 8192; users = draft.users; files = draft.played; units = draft.units })
program-sound draft sound replay =
    let range = pool-range draft.pool sound.pool in
    record { least = range.0; most = range.1; few = sound.few; names = sound.names; units_are = sound.units; causes = replay.causes; declares = replay.alike.users; plays = replay.alike.played }

finished-sound : (draft : Draft) (block : Option Opened) (program : Program) → HasSoundParts draft → IsReplayedBy draft (units_say draft.users draft.units ++ opened_says draft.users block) → finished_by block (record { pool = unwrap_or draft.pool 8192; users = draft.users; files = draft.played; units = draft.units }) ≡ Ok program → IsSound program
finished-sound draft None program sound replay e =
    let p : Program = record { pool = unwrap_or draft.pool 8192; users = draft.users; files = draft.played; units = draft.units } in
    let same : p ≡ program = cc in
    subst IsSound same (program-sound draft sound (subst (λ (said : List Statement). IsReplayedBy draft said) (append-nil (units_say draft.users draft.units)) replay))
finished-sound draft (Some block) program sound replay e = absurd cc

pub finish_sound : (draft : Draft) (program : Program) → IsSoundDraft draft → finished draft ≡ Ok program → IsSound program
finish_sound draft program sound e = finished-sound draft draft.block program sound.parts sound.replay e

pub ruleset soundness = (after_sound, nothing_sound, finish_sound)
