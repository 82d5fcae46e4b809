-- The files that a script's acts save, one behind another.
use Rattle.std.proofs.Common.{ℕ, ◌+◌, ◌<◌, ◌≡◌, ◌==◌, Bool, true, false, cond, List, [], ◌∷◌, ◌++◌, map, length, take, get_or, Option, Some, None, option_map, Result, Ok, Err, IfOk, refl, sym, ◌∙◌, ap, subst, append_assoc, append-nil}
use Rattle.std.specs.Prelude.{find, filter_map, flat_map}
use Rattle.std.specs.List.{AllByRecursion}
use Rattle.std.proofs.lemmas.Bool.{eqb-true}
use Rattle.std.proofs.lemmas.List.{map-append, take_more}
use Rattle.std.proofs.lemmas.List.Elements.{filter_map-append}
use Rattle.pcap_io.specs.declared.record.Record.{Record}
use Rattle.vale_entry.specs.declared.entry.Entry.{Entry}
use Rattle.vale_script.specs.declared.script.Act.{Act}
use Rattle.vale_script.specs.declared.script.Act.TheVariants as acts
use Rattle.vale_captures.specs.Outputs.{OutputFile}
use Rattle.vale_replay.specs.Machine.{Machine, Save}
use Rattle.vale_replay.specs.Saved.{saved_file, saved_frames, file_of_save, acts_of_unit, saves_of}
use Rattle.vale_script.specs.Script.{Program}
use Rattle.vale_player.specs.Kept.{KeptFrames, AreWhole}
use Rattle.vale_act.specs.Outputs.{output_of, outputs_of}
use Rattle.vale_player.specs.Kept.{record_of}
use Rattle.vale_act.specs.SavedActs.{note_of, outputs_of_acts, OutputsAre, name_of_save, names_of_acts}

-- ---- one file

pub found-whole : (pool : ℕ) (history : List Entry) (kept : List KeptFrames) (id : ℕ) (k : KeptFrames) → find (λ (one : KeptFrames). one.id == id) kept ≡ Some k → AreWhole pool history kept
    → k.records ≡ map record_of (saved_frames pool history id)
found-whole pool history [] id k e all = absurd cc
found-whole pool history (x ∷ kept) id k e all = by (x.id == id) refl e (λ found. found-whole pool history kept id k found all.1)
  where
    here : x.id ≡ id → x.records ≡ map record_of (saved_frames pool history id)
    here same = all.0.records ∙ ap (λ (n : ℕ). map record_of (saved_frames pool history n)) same

    some-is : Some x ≡ Some k → x ≡ k
    some-is s = cc

    by : (b : Bool) → (x.id == id) ≡ b → cond b (Some x) (find (λ (one : KeptFrames). one.id == id) kept) ≡ Some k
        → (find (λ (one : KeptFrames). one.id == id) kept ≡ Some k → k.records ≡ map record_of (saved_frames pool history id)) → k.records ≡ map record_of (saved_frames pool history id)
    by true same found rest = subst (λ (y : KeptFrames). y.records ≡ map record_of (saved_frames pool history id)) (some-is found) (here (eqb-true x.id id same))
    by false other found rest = rest found

pub file-made : (pool : ℕ) (history : List Entry) (kept : List KeptFrames) (save : Save) (k : KeptFrames) (made : OutputFile) → find (λ (one : KeptFrames). one.id == save.port.0) kept ≡ Some k
    → made ≡ record { file = save.file; records = k.records } → AreWhole pool history kept → made ≡ output_of (saved_file pool history save)
file-made pool history kept save k made found is all =
    is ∙ ap (λ (rs : List Record). let out : OutputFile = record { file = save.file; records = rs } in out) (found-whole pool history kept save.port.0 k found all)

pub file-on : {E : Type 0} (kept : List KeptFrames) (save : Save) (k : KeptFrames) (r : Result OutputFile E) → find (λ (one : KeptFrames). one.id == save.port.0) kept ≡ Some k
    → IfOk r (λ made. made ≡ record { file = save.file; records = k.records })
    → IfOk r (λ made. (pool : ℕ) (history : List Entry) → AreWhole pool history kept → made ≡ output_of (saved_file pool history save))
file-on {E} kept save k (Ok made) found is = λ pool history all. file-made pool history kept save k made found is all
file-on {E} kept save k (Err e) found is = tt

-- ---- one act

no-file : (act : Act) → ((name file : List ℕ) → act ≡ acts.Save name file → ⊥) → file_of_save act ≡ None
no-file (acts.Save name file) none = absurd (none name file refl)
no-file _ none = refl

module _ (saves : List Save) (kept : List KeptFrames) (act : Act) (before : List OutputFile) where
  by-files : (files : List (List ℕ)) → filter_map file_of_save (act ∷ []) ≡ files → (after : List OutputFile)
      → ((pool : ℕ) (history : List Entry) → AreWhole pool history kept → after ≡ before ++ map output_of (filter_map (λ (file : List ℕ). option_map (saved_file pool history) (note_of saves file)) files))
      → OutputsAre saves kept (act ∷ []) before after
  by-files files e after are pool history all =
      are pool history all ∙ ap (λ (fs : List (List ℕ)). before ++ map output_of (filter_map (λ (file : List ℕ). option_map (saved_file pool history) (note_of saves file)) fs)) (sym e)

  pub other-act : ((name file : List ℕ) → act ≡ acts.Save name file → ⊥) → OutputsAre saves kept (act ∷ []) before before
  other-act none = by-files [] (ap (λ (o : Option (List ℕ)). filter_map (λ (x : Option (List ℕ)). x) (o ∷ [])) (no-file act none)) before (λ pool history all. sym (append-nil before))

  module _ (name file : List ℕ) (is : act ≡ acts.Save name file) where
    the-file : filter_map file_of_save (act ∷ []) ≡ file ∷ []
    the-file = ap (λ (a : Act). filter_map file_of_save (a ∷ [])) is

    pub unnoted-act : note_of saves file ≡ None → OutputsAre saves kept (act ∷ []) before before
    unnoted-act none = by-files (file ∷ []) the-file before (λ pool history all.
        sym (ap (λ (o : Option Save). before ++ map output_of (filter_map (λ (x : Option Save). option_map (saved_file pool history) x) (o ∷ []))) none ∙ append-nil before))

    pub noted-act : (save : Save) (made : OutputFile) (after : List OutputFile) → note_of saves file ≡ Some save → after ≡ before ++ made ∷ []
        → ((pool : ℕ) (history : List Entry) → AreWhole pool history kept → made ≡ output_of (saved_file pool history save)) → OutputsAre saves kept (act ∷ []) before after
    noted-act save made after found added is = by-files (file ∷ []) the-file after (λ pool history all.
        added ∙ (ap (λ (o : OutputFile). before ++ o ∷ []) (is pool history all)
        ∙ sym (ap (λ (o : Option Save). before ++ map output_of (filter_map (λ (x : Option Save). option_map (saved_file pool history) x) (o ∷ []))) found)))

-- ---- acts one behind another

pub no-outputs : (saves : List Save) (kept : List KeptFrames) (before : List OutputFile) → OutputsAre saves kept [] before before
no-outputs saves kept before pool history all = sym (append-nil before)

outputs-then : (pool : ℕ) (history : List Entry) (saves : List Save) (one two : List Act) → outputs_of_acts pool history saves (one ++ two) ≡ outputs_of_acts pool history saves one ++ outputs_of_acts pool history saves two
outputs-then pool history saves one two =
    let noted = λ (file : List ℕ). option_map (saved_file pool history) (note_of saves file) in
    ap (λ (files : List (List ℕ)). map output_of (filter_map noted files)) (filter_map-append file_of_save one two)
    ∙ (ap (map output_of) (filter_map-append noted (filter_map file_of_save one) (filter_map file_of_save two))
    ∙ map-append output_of (filter_map noted (filter_map file_of_save one)) (filter_map noted (filter_map file_of_save two)))

pub acts-then : (saves : List Save) (kept : List KeptFrames) (one two all : List Act) (a b c : List OutputFile) → all ≡ one ++ two → OutputsAre saves kept one a b → OutputsAre saves kept two b c → OutputsAre saves kept all a c
acts-then saves kept one two all a b c is first second pool history whole =
    second pool history whole
    ∙ (ap (λ (outs : List OutputFile). outs ++ outputs_of_acts pool history saves two) (first pool history whole)
    ∙ (append_assoc a (outputs_of_acts pool history saves one) (outputs_of_acts pool history saves two)
    ∙ (ap (λ (outs : List OutputFile). a ++ outs) (sym (outputs-then pool history saves one two))
    ∙ ap (λ (x : List Act). a ++ outputs_of_acts pool history saves x) (sym is))))

pub acts-as : (saves : List Save) (kept : List KeptFrames) (one two : List Act) (a b : List OutputFile) → one ≡ two → OutputsAre saves kept one a b → OutputsAre saves kept two a b
acts-as saves kept one two a b is are = subst (λ (x : List Act). OutputsAre saves kept x a b) is are

pub each-more : {X : Type 0} (P : X → Type 0) (xs : List X) (x : X) → AllByRecursion P xs → P x → AllByRecursion P (xs ++ x ∷ [])
each-more {X} P [] x all one = (one, tt)
each-more {X} P (y ∷ xs) x all one = (all.0, each-more P xs x all.1 one)

-- the first items of a list, and one more
pub one-more-of : {X : Type 0} (xs : List X) (i : ℕ) (x : X) → i < length xs → x ≡ get_or xs i x → take (i + 1) xs ≡ take i xs ++ x ∷ []
one-more-of {X} xs i x inside is = take_more xs i x inside ∙ ap (λ (y : X). take i xs ++ y ∷ []) (sym is)

-- ---- the files of a whole script

pub whole-outputs : (program : Program) (history : List Entry) (users : List Machine) (saves : List Save) (kept : List KeptFrames) (made : List OutputFile) → saves_of users ≡ saves → AreWhole program.pool history kept
    → OutputsAre saves kept (flat_map acts_of_unit program.units) [] made → made ≡ outputs_of program history users
whole-outputs program history users saves kept made same whole are =
    are program.pool history whole ∙ ap (λ (ss : List Save). outputs_of_acts program.pool history ss (flat_map acts_of_unit program.units)) (sym same)

-- ---- names

pub names-then : (one two all : List Act) (a b c : List (List ℕ)) → all ≡ one ++ two → b ≡ a ++ names_of_acts one → c ≡ b ++ names_of_acts two → c ≡ a ++ names_of_acts all
names-then one two all a b c is first second =
    second ∙ (ap (λ (names : List (List ℕ)). names ++ names_of_acts two) first
    ∙ (append_assoc a (names_of_acts one) (names_of_acts two)
    ∙ (ap (λ (names : List (List ℕ)). a ++ names) (sym (filter_map-append name_of_save one two))
    ∙ ap (λ (x : List Act). a ++ names_of_acts x) (sym is))))

pub name-there : (act : Act) (name : List ℕ) (a b : List (List ℕ)) → name_of_save act ≡ Some name → b ≡ a ++ name ∷ [] → b ≡ a ++ names_of_acts (act ∷ [])
name-there act name a b is added = added ∙ sym (ap (λ (o : Option (List ℕ)). a ++ filter_map (λ (x : Option (List ℕ)). x) (o ∷ [])) is)

pub name-none : (act : Act) (a : List (List ℕ)) → name_of_save act ≡ None → a ≡ a ++ names_of_acts (act ∷ [])
name-none act a is = sym (ap (λ (o : Option (List ℕ)). a ++ filter_map (λ (x : Option (List ℕ)). x) (o ∷ [])) is ∙ append-nil a)
