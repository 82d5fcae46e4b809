-- What a script counts is a number of 64 bits.
use Rattle.std.proofs.Common.{ℕ, ◌+◌, ◌*◌, ◌≤◌, Bool, true, false, cond, List, [], ◌∷◌, length, map, drop, flat_map, sum_by, Option, ap, arith, bytes_eq}
use Rattle.std.specs.List.{AllByRecursion}
use Rattle.std.proofs.lemmas.List.{length-map, length-drop}
use Rattle.std.proofs.lemmas.List.Sums.{sum_by-cons}
use Rattle.nm_types.proofs.Lists.{each-joined}
use Rattle.nm_io.specs.Files.{Files}
use Rattle.pcap_io.specs.Capture.{Reader, AreRecords, number_in}
use Rattle.pcap_io.specs.Limits.{head_bytes, header_bytes}
use Rattle.pcap_io.specs.declared.record.Record.{Record}
use Rattle.vale_script.specs.declared.script.Act.{Act}
use Rattle.vale_script.specs.declared.script.Act.TheVariants as acts
use Rattle.vale_script.specs.declared.script.Line.{Line}
use Rattle.vale_script.specs.declared.script.Unit.{Unit as Part}
use Rattle.vale_script.specs.declared.script.Unit.TheVariants as parts
use Rattle.vale_script.specs.Sound.{IsSoundUnit, IsSoundLine, IsSoundAct}
use Rattle.vale_replay.specs.Replay.{act_of}
use Rattle.vale_replay.specs.Saved.{acts_of_unit}
use Rattle.vale_captures.specs.Counting.{CountsFew, PlaysFew, count_of, frames_by}
use Rattle.vale_captures.specs.Inputs.{InputFile, IsInput, AreInputs, captured, records_in}
use Rattle.vale_captures.proofs.FewLines.{few-acts}

-- a sum of so many numbers, none greater than this
pub sum-few : {A : Type 0} (f : A → ℕ) (most : ℕ) (xs : List A) → AllByRecursion (λ x. f x ≤ most) xs → sum_by f xs ≤ most * length xs
sum-few f most [] all = omega arith
sum-few f most (x ∷ xs) all =
    let rest = sum-few f most xs all.1 in
    let first = all.0 in
    let sum = sum_by-cons f x xs in
    grind (arith, rest, first, sum)

-- ---- lines

act-few : (act : Act) → IsSoundAct act → count_of act ≤ 1000000
act-few acts.Enter sound = omega arith
act-few (acts.Open name tx rx extra) sound = omega arith
act-few (acts.Put name count to from len fill) sound = sound.1
act-few (acts.Hex name bytes) sound = omega arith
act-few (acts.Play name file batch) sound = omega arith
act-few (acts.Tx name) sound = omega arith
act-few (acts.Rx name keep) sound = omega arith
act-few (acts.Fwd from to count) sound = sound.2
act-few (acts.Poke name side slot field value) sound = omega arith
act-few (acts.Move name side head cur) sound = omega arith
act-few (acts.Swap name side slot other other_side other_slot quiet) sound = omega arith
act-few (acts.Extra name i j) sound = omega arith
act-few (acts.Watch monitor target sides) sound = omega arith
act-few (acts.Stat name) sound = omega arith
act-few (acts.Save name file) sound = omega arith
act-few (acts.Close name) sound = omega arith

lines-few : (users : ℕ) (ls : List Line) → AllByRecursion (IsSoundLine users) ls → AllByRecursion (λ (act : Act). count_of act ≤ 1000000) (map act_of ls)
lines-few users [] sound = tt
lines-few users (l ∷ ls) sound = (act-few l.act sound.0.act, lines-few users ls sound.1)

unit-few : (users : ℕ) (unit : Part) → IsSoundUnit users unit → AllByRecursion (λ (act : Act). count_of act ≤ 1000000) (acts_of_unit unit)
unit-few users (parts.Single line) sound = (act-few line.act sound.act, tt)
unit-few users (parts.Block ls) sound = lines-few users ls sound

units-few : (users : ℕ) (units : List Part) → AllByRecursion (IsSoundUnit users) units → AllByRecursion (λ (act : Act). count_of act ≤ 1000000) (flat_map acts_of_unit units)
units-few users [] sound = tt
units-few users (unit ∷ units) sound = each-joined (λ (act : Act). count_of act ≤ 1000000) (acts_of_unit unit) (flat_map acts_of_unit units) (unit-few users unit sound.0) (units-few users units sound.1)

pub counts-few : CountsFew
counts-few script program is sound short =
    let acts : List Act = flat_map acts_of_unit program.units in
    let few = few-acts script program is in
    let sum = sum-few count_of 1000000 acts (units-few (length program.users) program.units sound.units_are) in
    omega (arith, few, sum, short)

-- ---- captures

records-few : (number : Reader) (text : List ℕ) (records : List Record) → AreRecords number text records → length records ≤ length text
records-few number text [] are = omega arith
records-few number text (r ∷ rs) are =
    let rest = records-few number (drop (head_bytes + length r.bytes) text) rs are.1 in
    let there = are.0.there in
    let shorter = length-drop (head_bytes + length r.bytes) text in
    omega (arith, rest, there, shorter)

input-few : (files : Option Files) (name : List ℕ) (input : InputFile) (size : ℕ) → IsInput files name input size → length input.frames ≤ size
input-few files name input size is =
    let few = records-few (number_in is.capture.order) (drop header_bytes is.contents) is.records is.capture.body in
    let shorter = length-drop header_bytes is.contents in
    let frames = ap length is.frames in
    let same = length-map is.records captured in
    let sized = is.sized in
    omega (arith, few, shorter, frames, same, sized)

played-few : (files : Option Files) (names : List (List ℕ)) (played : List InputFile) (size : ℕ) (file : List ℕ) → AreInputs files names played size → length (records_in played file) ≤ size
played-few files [] [] size file are = omega arith
played-few files [] (i ∷ is) size file are = absurd are
played-few files (n ∷ ns) [] size file are = absurd are
played-few files (n ∷ ns) (i ∷ is) size file are =
    let first = input-few files n i are.0 are.2.0 in
    let rest = played-few files ns is are.1 file are.2.1.0 in
    let sum = are.2.1.1 in
    by (bytes_eq i.file file) (omega (arith, first, sum)) (omega (arith, rest, sum))
  where
    by : (same : Bool) → length i.frames ≤ size → length (records_in is file) ≤ size → length (cond {A = List (List ℕ)} same i.frames (records_in is file)) ≤ size
    by true one two = one
    by false one two = two

act-plays : (played : List InputFile) (most : ℕ) → ((file : List ℕ) → length (records_in played file) ≤ most) → (act : Act) → frames_by played act ≤ most
act-plays played most few acts.Enter = omega arith
act-plays played most few (acts.Open name tx rx extra) = omega arith
act-plays played most few (acts.Put name count to from len fill) = omega arith
act-plays played most few (acts.Hex name bytes) = omega arith
act-plays played most few (acts.Play name file batch) = few file
act-plays played most few (acts.Tx name) = omega arith
act-plays played most few (acts.Rx name keep) = omega arith
act-plays played most few (acts.Fwd from to count) = omega arith
act-plays played most few (acts.Poke name side slot field value) = omega arith
act-plays played most few (acts.Move name side head cur) = omega arith
act-plays played most few (acts.Swap name side slot other other_side other_slot quiet) = omega arith
act-plays played most few (acts.Extra name i j) = omega arith
act-plays played most few (acts.Watch monitor target sides) = omega arith
act-plays played most few (acts.Stat name) = omega arith
act-plays played most few (acts.Save name file) = omega arith
act-plays played most few (acts.Close name) = omega arith

all-of : {A : Type 0} (P : A → Type 0) → ((x : A) → P x) → (xs : List A) → AllByRecursion P xs
all-of P each [] = tt
all-of P each (x ∷ xs) = (each x, all-of P each xs)

product-few : (a b c d : ℕ) → a ≤ c → b ≤ d → a * b ≤ c * d
product-few a b c d one two = grind (arith, one, two)

pub plays-few : PlaysFew
plays-few files names played size script program is short are small =
    let acts : List Act = flat_map acts_of_unit program.units in
    let few = few-acts script program is in
    let most : ℕ = 2147483647 in
    let each : (file : List ℕ) → length (records_in played file) ≤ most = λ file. (let one = played-few files names played size file are in omega (arith, one, small)) in
    let sum = sum-few (frames_by played) most acts (all-of (λ (act : Act). frames_by played act ≤ most) (act-plays played most each) acts) in
    omega (arith, few, sum, short)
