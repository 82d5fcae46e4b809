-- The ports of all notes are kept, from their users' leaving to the end of a script.
use Rattle.std.proofs.Common.{ℕ, suc, ◌+◌, ◌≡◌, ◌==◌, Bool, true, false, cond, List, [], ◌∷◌, ◌++◌, length, slice_get, slice_set, Option, Some, None, IsSome, IfSome, Vec, refl, sym, ap, ◌∙◌, subst}
use Rattle.std.specs.Prelude.{find, flat_map, bytes_eq}
use Rattle.std.specs.List.{AllByRecursion}
use Rattle.std.specs.declared.alloc.Global.{Global}
use Rattle.vale_fabric.specs.Fabrics.{Knowing}
use Rattle.vale_replay.specs.Machine.{Save}
use Rattle.vale_player.specs.Kept.{KeptFrames, AreOrLost, Keeps, KeepsAll, KeepsMore, both_kept}
use Rattle.vale_player.proofs.KeptSaves.{keeps-all}
use Rattle.vale_act.specs.SavedActs.{note_of}
use Rattle.vale_act.specs.Seats.{AllAre, AreSaves, AreSeated, HasMet, IsSeated, files_in, saves_at}
use Rattle.vale_act.specs.declared.seat.Seat.{Seat}
use Rattle.vale_act.specs.declared.seat.Seat.TheVariants.{Away, There, Gone}
use Rattle.vale_act.proofs.AllSeats.{all-set, some-is}

-- ---- what two have kept

both-all : {X : Type 0} (P : X → Type 0) (xs ys : List X) → AllByRecursion P xs → AllByRecursion P ys → AllByRecursion P (xs ++ ys)
both-all {X} P [] ys one two = two
both-all {X} P (x ∷ xs) ys one two = (one.0, both-all P xs ys one.1 two)

pub both-each : (P : KeptFrames → Type 0) (kept more now : Option (List KeptFrames)) → AreOrLost (both_kept kept more) now → IfSome kept (AllByRecursion P) → IfSome more (AllByRecursion P) → IfSome now (AllByRecursion P)
both-each P kept more None is one two = tt
both-each P None None (Some now) is one two = absurd cc
both-each P None (Some b) (Some now) is one two = absurd cc
both-each P (Some a) None (Some now) is one two = absurd cc
both-each P (Some a) (Some b) (Some now) is one two = subst (AllByRecursion P) (some-is (a ++ b) now is) (both-all P a b one two)

find-left : (test : KeptFrames → Bool) (a b : List KeptFrames) → IsSome (find test a) → IsSome (find test (a ++ b))
find-left test [] b some = absurd cc
find-left test (k ∷ a) b some = by (test k) some (find-left test a b)
  where
    by : (c : Bool) → IsSome (cond c (Some k) (find test a)) → (IsSome (find test a) → IsSome (find test (a ++ b))) → IsSome (cond c (Some k) (find test (a ++ b)))
    by true s rest = s
    by false s rest = rest s

find-right : (test : KeptFrames → Bool) (a b : List KeptFrames) → IsSome (find test b) → IsSome (find test (a ++ b))
find-right test [] b some = some
find-right test (k ∷ a) b some = by (test k) (find-right test a b some)
  where
    by : (c : Bool) → IsSome (find test (a ++ b)) → IsSome (cond c (Some k) (find test (a ++ b)))
    by true rest = refl
    by false rest = rest

pub both-left : (kept more now : Option (List KeptFrames)) → AreOrLost (both_kept kept more) now → KeepsMore kept now
both-left kept more None is id keeps = tt
both-left None None (Some now) is id keeps = absurd cc
both-left None (Some b) (Some now) is id keeps = absurd cc
both-left (Some a) None (Some now) is id keeps = absurd cc
both-left (Some a) (Some b) (Some now) is id keeps = subst (λ (ports : List KeptFrames). Keeps (Some ports) id) (some-is (a ++ b) now is) (find-left (λ (one : KeptFrames). one.id == id) a b keeps)

both-right : (kept more now : Option (List KeptFrames)) → AreOrLost (both_kept kept more) now → KeepsMore more now
both-right kept more None is id keeps = tt
both-right None None (Some now) is id keeps = absurd cc
both-right None (Some b) (Some now) is id keeps = absurd cc
both-right (Some a) None (Some now) is id keeps = absurd cc
both-right (Some a) (Some b) (Some now) is id keeps = subst (λ (ports : List KeptFrames). Keeps (Some ports) id) (some-is (a ++ b) now is) (find-right (λ (one : KeptFrames). one.id == id) a b keeps)

-- ---- a seat

saves-met : (main : Knowing) (before met : Seat) → HasMet main before met → saves_at met ≡ saves_at before
saves-met main Away met is = ap saves_at is
saves-met main (Gone saves) met is = ap saves_at is
saves-met main (There p fault) met is = ap saves_at is.1.0

-- where nobody leaves
pub saves-stay : (main : Knowing) (before met after : Seat) (kept : Option (List KeptFrames)) → HasMet main before met → after ≡ met → KeepsAll kept (saves_at before) → KeepsAll kept (saves_at after)
saves-stay main before met after kept has is all = subst (KeepsAll kept) (sym (ap saves_at is ∙ saves-met main before met has)) all

-- where a user leaves
pub saves-left : (after : Seat) (saves : Vec Save Global) (kept more now : Option (List KeptFrames)) → after ≡ Gone saves → AreOrLost (both_kept kept more) now → KeepsAll more saves.items → KeepsAll now (saves_at after)
saves-left after saves kept more now is both all =
    subst (λ (seat : Seat). KeepsAll now (saves_at seat)) (sym is) (keeps-all more now saves.items (both-right kept more now both) all)

-- ---- all seats

abbrev pub AreKeptIn : Option (List KeptFrames) → List Seat → Type 0
AreKeptIn kept seats = AllAre (λ place seat. KeepsAll kept (saves_at seat)) seats

-- before anybody leaves
pub none-left : (kept : Option (List KeptFrames)) (seats : List Seat) → AreSeated seats → AreKeptIn kept seats
none-left kept seats seated place seat at = by seat (seated place seat at)
  where
    by : (s : Seat) → IsSeated (place + 1) s → KeepsAll kept (saves_at s)
    by Away is = tt
    by (There p fault) is = tt
    by (Gone saves) is = absurd is

pub one-leaves : (old new : Option (List KeptFrames)) (seats : List Seat) (place : ℕ) (before after : Seat) → slice_get seats place ≡ Some before → KeepsMore old new
    → (KeepsAll old (saves_at before) → KeepsAll new (saves_at after)) → AreKeptIn old seats → AreKeptIn new (slice_set seats place after)
one-leaves old new seats place before after here more one all =
    all-set (λ k seat. KeepsAll new (saves_at seat)) seats place after (λ k seat at. keeps-all old new (saves_at seat) more (all k seat at)) (one (all place before here))

-- ---- the files of all users

all-then : (kept : Option (List KeptFrames)) (one two : List Save) → KeepsAll kept one → KeepsAll kept two → KeepsAll kept (one ++ two)
all-then kept one two a b = both-all (λ (save : Save). Keeps kept save.port.0) one two a b

listed : (kept : Option (List KeptFrames)) (lists : List (Vec Save Global)) (seats : List Seat) → length lists ≡ length seats
    → ((k : ℕ) (seat : Seat) (files : Vec Save Global) → slice_get seats k ≡ Some seat → slice_get lists k ≡ Some files → files.items ≡ saves_at seat)
    → AreKeptIn kept seats → KeepsAll kept (flat_map files_in lists)
listed kept [] seats long each all = tt
listed kept (files ∷ lists) [] long each all = absurd cc
listed kept (files ∷ lists) (seat ∷ seats) long each all =
    let shorter : length lists ≡ length seats = cc in
    all-then kept files.items (flat_map files_in lists) (subst (KeepsAll kept) (sym (each 0 seat files refl refl)) (all 0 seat refl))
    (listed kept lists seats shorter (λ k s f at there. each (suc k) s f at there) (λ k s at. all (suc k) s at))

pub files-kept : (kept : Option (List KeptFrames)) (seats : List Seat) (lists : List (Vec Save Global)) → AreSaves seats lists → AreKeptIn kept seats → KeepsAll kept (flat_map files_in lists)
files-kept kept seats lists are all = listed kept lists seats are.len are.each all

-- ---- one note

pub noted-keeps : (kept : Option (List KeptFrames)) (saves : List Save) (file : List ℕ) (save : Save) → note_of saves file ≡ Some save → KeepsAll kept saves → Keeps kept save.port.0
noted-keeps kept [] file save is all = absurd cc
noted-keeps kept (x ∷ saves) file save is all = by (bytes_eq x.file file) is (λ found. noted-keeps kept saves file save found all.1)
  where
    by : (b : Bool) → cond b (Some x) (note_of saves file) ≡ Some save → (note_of saves file ≡ Some save → Keeps kept save.port.0) → Keeps kept save.port.0
    by true found rest = subst (λ (s : Save). Keeps kept s.port.0) (some-is x save found) all.0
    by false found rest = rest found
