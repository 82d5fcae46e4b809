-- What a draft says behind one more line.
use Rattle.std.specs.List.{AllByRecursion as Each}
use Rattle.std.proofs.Common.{ℕ, ◌+◌, ◌-◌, ◌≤◌, ◌≡◌, true, false, List, [], ◌∷◌, ◌++◌, length, get_or, Option, Some, None, is_some, unwrap_or, IfSome, refl, sym, ap, ◌∙◌, arith, append_assoc, append-nil}
use Rattle.std.proofs.lemmas.List.{map-append, get_or_append_left}
use Rattle.std.proofs.lemmas.Grind.{flat_map-append}
use Rattle.vale_script.specs.declared.script.Act.{Act}
use Rattle.vale_script.specs.declared.script.Act.TheVariants as acts
use Rattle.vale_script.specs.declared.script.Line.{Line}
use Rattle.vale_script.specs.declared.script.Unit.{Unit as Part}
use Rattle.vale_script.specs.declared.script.Unit.TheVariants as parts
use Rattle.vale_script.specs.Keeps.{IsNumberOf, opened_says, draft_says}
use Rattle.vale_script.specs.Replay.{user_name, act_says, line_says, lines_say, unit_says, units_say}
use Rattle.vale_script.specs.Rules.{Draft, Opened, with_act, with_line, units_with, block_with, ended_units}
use Rattle.vale_script.specs.Sound.{IsSoundDeed, IsSoundLine, IsSoundUnit}
use Rattle.vale_script.specs.Statements.{Statement, NewUser, Begin, End, Does}

units-push : (users : List (List ℕ)) (units : List Part) (part : Part) → units_say users (units ++ part ∷ []) ≡ units_say users units ++ unit_says users part
units-push users units part =
    flat_map-append (unit_says users) units (part ∷ [])
    ∙ ap (λ (tail : List Statement). units_say users units ++ tail) (append-nil (unit_says users part))

-- A line of a user.

pub says_line : (users : List (List ℕ)) (block : Option Opened) (units : List Part) (line : Line) → units_say users (units_with block line units) ++ opened_says users (block_with block line) ≡ (units_say users units ++ opened_says users block) ++ line_says users line ∷ []
says_line users None units line =
    append-nil (units_say users (units ++ parts.Single line ∷ []))
    ∙ units-push users units (parts.Single line)
    ∙ ap (λ (front : List Statement). front ++ line_says users line ∷ []) (sym (append-nil (units_say users units)))
says_line users (Some block) units line =
    ap (λ (lines : List Statement). units_say users units ++ Begin ∷ lines) (map-append (line_says users) block.lines (line ∷ []))
    ∙ sym (append_assoc (units_say users units) (Begin ∷ lines_say users block.lines) (line_says users line ∷ []))

-- an act changes nothing that the lines so far say
pub says_act : (draft : Draft) (user : List ℕ) (act : Act) (line : Line) → draft_says (with_line (with_act draft user act) line) ≡ draft_says (with_line draft line)
says_act draft user (acts.Open name tx rx extra) line = refl
says_act draft user (acts.Close name) line = refl
says_act draft user (acts.Play name file batch) line = refl
says_act draft user (acts.Save name file) line = refl
says_act draft user act line = refl

deed-says : (user : List ℕ) (act : Act) → IsSoundDeed act → act_says user act ≡ Does user act
deed-says user acts.Enter here = absurd here
deed-says user act here = refl

pub says_deed : (users : List (List ℕ)) (user : List ℕ) (number : Option ℕ) (act : Act) → IsSoundDeed act → is_some number ≡ true → IfSome number (IsNumberOf users user) → act_says (user_name users (unwrap_or number 0)) act ≡ Does user act
says_deed users user None act here there named = absurd cc
says_deed users user (Some n) act here there named = ap (λ (name : List ℕ). act_says name act) named ∙ deed-says user act here

-- A new user.

pub name_more : (users more : List (List ℕ)) (number : ℕ) → 1 ≤ number → number ≤ length users → user_name (users ++ more) number ≡ user_name users number
name_more users more number least most = get_or_append_left users more [] (number - 1) (omega (arith, least, most))

get-last : (users : List (List ℕ)) (name : List ℕ) → get_or (users ++ name ∷ []) (length users) [] ≡ name
get-last [] name = refl
get-last (user ∷ users) name = get-last users name

pub name_last : (users : List (List ℕ)) (name : List ℕ) → user_name (users ++ name ∷ []) (length users + 1) ≡ name
name_last users name =
    let at : length users + 1 - 1 ≡ length users = omega arith in
    ap (λ (i : ℕ). get_or (users ++ name ∷ []) i []) at ∙ get-last users name

line-more : (users more : List (List ℕ)) (line : Line) → IsSoundLine (length users) line → line_says (users ++ more) line ≡ line_says users line
line-more users more line sound = ap (λ (name : List ℕ). act_says name line.act) (name_more users more line.user sound.least sound.most)

lines-more : (users more : List (List ℕ)) (lines : List Line) → Each (IsSoundLine (length users)) lines → lines_say (users ++ more) lines ≡ lines_say users lines
lines-more users more [] all = refl
lines-more users more (line ∷ lines) all =
    ap (λ (said : Statement). said ∷ lines_say (users ++ more) lines) (line-more users more line all.0)
    ∙ ap (λ (rest : List Statement). line_says users line ∷ rest) (lines-more users more lines all.1)

unit-more : (users more : List (List ℕ)) (part : Part) → IsSoundUnit (length users) part → unit_says (users ++ more) part ≡ unit_says users part
unit-more users more (parts.Single line) sound = ap (λ (said : Statement). said ∷ []) (line-more users more line sound)
unit-more users more (parts.Block lines) sound = ap (λ (said : List Statement). Begin ∷ (said ++ End ∷ [])) (lines-more users more lines sound)

units-more : (users more : List (List ℕ)) (units : List Part) → Each (IsSoundUnit (length users)) units → units_say (users ++ more) units ≡ units_say users units
units-more users more [] all = refl
units-more users more (part ∷ units) all =
    ap (λ (said : List Statement). said ++ units_say (users ++ more) units) (unit-more users more part all.0)
    ∙ ap (λ (rest : List Statement). unit_says users part ++ rest) (units-more users more units all.1)

pub says_user : (users : List (List ℕ)) (name : List ℕ) (block : Option Opened) (units : List Part) (at : ℕ) → is_some block ≡ false → Each (IsSoundUnit (length users)) units → units_say (users ++ name ∷ []) (units ++ parts.Single (record { at = at; user = length users + 1; act = acts.Enter }) ∷ []) ++ opened_says (users ++ name ∷ []) block ≡ (units_say users units ++ opened_says users block) ++ NewUser name ∷ []
says_user users name (Some block) units at none all = absurd cc
says_user users name None units at none all =
    let line : Line = record { at = at; user = length users + 1; act = acts.Enter } in
    let more : List (List ℕ) = users ++ name ∷ [] in
    append-nil (units_say more (units ++ parts.Single line ∷ []))
    ∙ units-push more units (parts.Single line)
    ∙ ap (λ (front : List Statement). front ++ line_says more line ∷ []) (units-more users (name ∷ []) units all)
    ∙ ap (λ (n : List ℕ). units_say users units ++ NewUser n ∷ []) (name_last users name)
    ∙ ap (λ (front : List Statement). front ++ NewUser name ∷ []) (sym (append-nil (units_say users units)))

-- A block begins, and ends.

pub says_begin : (users : List (List ℕ)) (block : Option Opened) (units : List Part) → is_some block ≡ false → units_say users units ++ Begin ∷ [] ≡ (units_say users units ++ opened_says users block) ++ Begin ∷ []
says_begin users (Some block) units none = absurd cc
says_begin users None units none = ap (λ (front : List Statement). front ++ Begin ∷ []) (sym (append-nil (units_say users units)))

pub says_end : (users : List (List ℕ)) (block : Option Opened) (units : List Part) → is_some block ≡ true → units_say users (ended_units block units) ++ [] ≡ (units_say users units ++ opened_says users block) ++ End ∷ []
says_end users None units some = absurd cc
says_end users (Some block) units some =
    append-nil (units_say users (units ++ parts.Block block.lines ∷ []))
    ∙ units-push users units (parts.Block block.lines)
    ∙ sym (append_assoc (units_say users units) (Begin ∷ lines_say users block.lines) (End ∷ []))
