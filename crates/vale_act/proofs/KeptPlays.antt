-- What is kept of users' ports, from their leaving to the end of a script.
use Rattle.std.proofs.Common.{◌≡◌, ℕ, zero, suc, ◌+◌, ◌∙◌, List, [], ◌∷◌, ◌++◌, length, take, slice_get, Option, Some, None, IfSome, Vec, refl, sym, ap, subst, arith, append_assoc, append-nil}
use Rattle.std.specs.Prelude.{flat_map}
use Rattle.std.specs.List.{AllByRecursion}
use Rattle.std.specs.declared.alloc.Global.{Global}
use Rattle.std.proofs.lemmas.Grind.{flat_map-append}
use mathlib.Core.List.{IsPrefix}
use Rattle.nm_turn.specs.Passes.{Knows}
use Rattle.vale_entry.specs.declared.entry.Entry.{Entry}
use Rattle.vale_entry.specs.Legal.{IsLegal}
use Rattle.vale_fabric.specs.Roots.{root_of}
use Rattle.vale_fabric.specs.Fabrics.{Knowing}
use Rattle.vale_script.specs.Script.{Program}
use Rattle.vale_captures.specs.Outputs.{OutputFile, IsWritable}
use Rattle.vale_replay.specs.Machine.{Machine, Save}
use Rattle.vale_replay.specs.Saved.{saves_of}
use Rattle.vale_replay.specs.Tasks.{Captures}
use Rattle.vale_act.specs.Outputs.{outputs_of}
use Rattle.vale_act.specs.Plays.{PlaysScript}
use Rattle.vale_act.specs.Units.{AreUsersFrom}
use Rattle.vale_player.specs.Kept.{KeptFrames, AreOrLost, AreWhole, IsWhole, KeepsWhole, both_kept}
use Rattle.vale_act.specs.Seats.{AllAre, IsEmpty, Meets, ScriptDone, files_in, saves_at}
use Rattle.vale_act.specs.declared.seat.Seat.{Seat}
use Rattle.vale_act.specs.declared.seat.Seat.TheVariants.{Away, There, Gone}
use Rattle.vale_player.proofs.KeptPorts.{whole-stays}
use Rattle.vale_act.proofs.KeptNotes.{both-each}

-- all that was kept is all in a history that goes on
pub whole-later : (pool : ℕ) (h k : List Entry) (kept : List KeptFrames) → IsPrefix h k → IsLegal pool k → AreWhole pool h kept → AreWhole pool k kept
whole-later pool h k kept begins legal whole =
    subst (λ (l : List Entry). AreWhole pool l kept) begins.1 (whole-stays pool h begins.0 kept (subst (IsLegal pool) (sym begins.1) legal) whole)

whole-if-later : (pool : ℕ) (h k : List Entry) (kept : Option (List KeptFrames)) → IsPrefix h k → IsLegal pool k → IfSome kept (AreWhole pool h) → IfSome kept (AreWhole pool k)
whole-if-later pool h k None begins legal whole = tt
whole-if-later pool h k (Some ports) begins legal whole = whole-later pool h k ports begins legal whole

-- nothing is kept at first
pub none-whole : (pool : ℕ) (h : List Entry) (kept : Option (List KeptFrames)) → kept ≡ Some [] → IfSome kept (AreWhole pool h)
none-whole pool h kept none = subst (λ (k : Option (List KeptFrames)). IfSome k (AreWhole pool h)) (sym none) tt

-- where nobody leaves
pub keeps-met : (pool : ℕ) (v m : Knowing) (before met : Seat) (kept : Option (List KeptFrames)) → Meets v m before met → KeepsWhole pool v m kept kept
keeps-met pool v m before met kept meets whole = subst (λ (l : List Entry). IfSome kept (AreWhole pool l)) (sym meets.seen) whole

-- where a user leaves, with what was kept of its ports
pub keeps-left : (pool mine : ℕ) (v m w left : Knowing) (before met : Seat) (kept ports all : Option (List KeptFrames)) → Meets v m before met → mine ≡ pool
    → Knows root_of w.seen m.seen m.mine × Knows root_of w.seen left.seen left.mine → IsLegal pool w.seen → IfSome ports (AreWhole mine left.seen)
    → AreOrLost (both_kept kept ports) all → KeepsWhole pool v w kept all
keeps-left pool mine v m w left before met kept ports all meets of known legal own both whole =
    both-each (IsWhole pool w.seen) kept ports all both
    (whole-if-later pool v.seen w.seen kept (subst (λ (l : List Entry). IsPrefix l w.seen) meets.seen known.0.begins) legal whole)
    (whole-if-later pool left.seen w.seen ports known.1.begins legal (subst (λ (n : ℕ). IfSome ports (AreWhole n left.seen)) of own))

-- ---- the files of all users

module _ {X Y : Type 0} (f : X → List Y) where
  take-some : (xs : List X) (i : ℕ) (x : X) → slice_get xs i ≡ Some x → take (i + 1) xs ≡ take i xs ++ x ∷ []
  take-some [] i x at = absurd cc
  take-some (y ∷ ys) zero x at = let is : y ≡ x = cc in ap (λ (z : X). z ∷ []) is
  take-some (y ∷ ys) (suc i) x at =
      let e : suc i + 1 ≡ suc (i + 1) = omega arith in
      ap (λ (n : ℕ). take n (y ∷ ys)) e ∙ ap (λ (l : List X). y ∷ l) (take-some ys i x at)

  pub gather-step : (xs : List X) (i : ℕ) (x : X) (old now next : List Y) → slice_get xs i ≡ Some x → now ≡ old ++ flat_map f (take i xs) → next ≡ now ++ f x → next ≡ old ++ flat_map f (take (i + 1) xs)
  gather-step xs i x old now next at was is =
      let front = flat_map f (take i xs) in
      let more : flat_map f (take (i + 1) xs) ≡ front ++ f x =
      ap (flat_map f) (take-some xs i x at) ∙ (flat_map-append f (take i xs) (x ∷ []) ∙ ap (λ (l : List Y). front ++ l) (append-nil (f x))) in
      is ∙ (ap (λ (l : List Y). l ++ f x) was ∙ (append_assoc old front (f x) ∙ ap (λ (l : List Y). old ++ l) (sym more)))

same-flat : {X Y Z : Type 0} (f : X → List Z) (g : Y → List Z) (xs : List X) (ys : List Y) → length xs ≡ length ys
    → ((k : ℕ) (y : Y) (x : X) → slice_get ys k ≡ Some y → slice_get xs k ≡ Some x → f x ≡ g y) → flat_map f xs ≡ flat_map g ys
same-flat f g [] [] long each = refl
same-flat f g [] (y ∷ ys) long each = absurd cc
same-flat f g (x ∷ xs) [] long each = absurd cc
same-flat {X} {Y} {Z} f g (x ∷ xs) (y ∷ ys) long each =
    let shorter : length xs ≡ length ys = cc in
    ap (λ (l : List Z). l ++ flat_map f xs) (each 0 y x refl refl)
    ∙ ap (λ (l : List Z). g y ++ l) (same-flat f g xs ys shorter (λ k z w at there. each (suc k) z w at there))

-- the users that have gone leave theirs at their seats
users-saves : (pool number : ℕ) (seats : List Seat) (users : List Machine) → AllAre IsEmpty seats → AreUsersFrom pool number seats users → saves_of users ≡ flat_map saves_at seats
users-saves pool number [] [] empty are = refl
users-saves pool number [] (user ∷ users) empty are = absurd are
users-saves pool number (seat ∷ seats) [] empty are = absurd are
users-saves pool number (Away ∷ seats) (user ∷ users) empty are =
    let none : user.saves ≡ [] = ap (λ (u : Machine). u.saves) are.0 in
    ap (λ (l : List Save). l ++ saves_of users) none ∙ users-saves pool (number + 1) seats users (λ k s at. empty (suc k) s at) are.1
users-saves pool number (There p fault ∷ seats) (user ∷ users) empty are = let none = empty 0 (There p fault) refl in absurd cc
users-saves pool number (Gone saves ∷ seats) (user ∷ users) empty are =
    ap (λ (l : List Save). l ++ saves_of users) are.0.1.0
    ∙ ap (λ (l : List Save). saves.items ++ l) (users-saves pool (number + 1) seats users (λ k s at. empty (suc k) s at) are.1)

-- ---- the whole script

pub plays-script : (program : Program) (captures : Captures) (pool : ℕ) (v : Knowing) (lists : List (Vec Save Global)) (kept : List KeptFrames) (made : List OutputFile) → pool ≡ program.pool
    → ScriptDone program captures v lists → AreWhole pool v.seen kept
    → ((history : List Entry) (users : List Machine) → saves_of users ≡ flat_map files_in lists → AreWhole program.pool history kept → made ≡ outputs_of program history users)
    → AllByRecursion IsWritable made → PlaysScript program captures v.seen made
plays-script program captures pool v lists kept made same done whole is writable =
    let saves : saves_of done.played.cast.users ≡ flat_map files_in lists =
    users-saves program.pool 1 done.seats done.played.cast.users done.gone done.played.are ∙ sym (same-flat files_in saves_at lists done.seats done.saved.len done.saved.each) in
    record {
      cast = done.played.cast;
      played = done.played.played;
      saved = is v.seen done.played.cast.users saves (subst (λ (n : ℕ). AreWhole n v.seen kept) same whole);
      writable = writable;
    }
