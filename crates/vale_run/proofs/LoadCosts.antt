-- What the lines of a load cost is little: the record has room for each call to which its users come.
use Rattle.std.proofs.Common.{ℕ, ◌+◌, ◌*◌, ◌≤◌, ◌≡◌, Bool, true, false, cond, inl, List, [], ◌∷◌, ◌++◌, length, map, flat_map, sum_by, refl, sym, ◌∙◌, ap, subst, arith}
use Rattle.std.specs.List.{range_with_len, AllByRecursion as Each}
use Rattle.std.proofs.lemmas.List.{length-append, append-nil, map-append}
use Rattle.std.proofs.lemmas.List.FromFn.{length-range_with_len}
use Rattle.std.proofs.lemmas.List.Sums.{sum_by-cons, sum_by-append}
use Rattle.nm_types.specs.Limits.{most_switch_ports}
use Rattle.nm_types.specs.declared.limits.TheConstants.Limits.{VERSION_2}
use Rattle.nm_types.proofs.Lists.{each-joined}
use Rattle.vale_script.specs.declared.script.Act.{Act}
use Rattle.vale_script.specs.declared.script.Act.TheVariants.{Play}
use Rattle.vale_gen.specs.Load.{Deed, syncs, is_followed, frame_deeds, user_deeds, numbered, users, opening, block_deeds, load_program, put}
use Rattle.vale_captures.specs.Counting.{count_of, frames_by}
use Rattle.vale_replay.specs.Replay.{act_of}
use Rattle.vale_replay.specs.Saved.{acts_of_unit}
use Rattle.vale_cost.specs.Completeness.{IsPlainAct, TasksFit}
use Rattle.vale_cost.specs.FewFrames.{bytes_by}
use Rattle.vale_script.proofs.HexLines.{HexFits}
use Rattle.vale_cost.proofs.RoomLines.{tasks-fit}

-- ---- lists of lines

-- at most so many lines, which put at most so many frames of one slot
record AreLight (acts : List Act) (lines frames : ℕ) : Type 0 where
  few : length acts ≤ lines
  counted : sum_by count_of acts ≤ frames
  bytes : sum_by (bytes_by []) acts ≤ 2048 * frames
  plain : Each IsPlainAct acts
  short : Each HexFits acts

none-light : AreLight [] 0 0
none-light = record { few = omega arith; counted = omega arith; bytes = omega arith; plain = tt; short = tt }

light-append : (xs ys : List Act) (k f l g : ℕ) → AreLight xs k f → AreLight ys l g → AreLight (xs ++ ys) (k + l) (f + g)
light-append xs ys k f l g one other = record {
  few = omega (arith, length-append xs ys, one.few, other.few);
  counted = omega (arith, sum_by-append count_of xs ys, one.counted, other.counted);
  bytes = omega (arith, sum_by-append (bytes_by []) xs ys, one.bytes, other.bytes);
  plain = each-joined IsPlainAct xs ys one.plain other.plain;
  short = each-joined HexFits xs ys one.short other.short;
}

light-within : (acts : List Act) (k f l g : ℕ) → k ≤ l → f ≤ g → AreLight acts k f → AreLight acts l g
light-within acts k f l g lines frames light = record {
  few = omega (arith, light.few, lines);
  counted = omega (arith, light.counted, frames);
  bytes = omega (arith, light.bytes, frames);
  plain = light.plain;
  short = light.short;
}

abbrev act_of_deed : Deed → Act
act_of_deed deed = deed.act

abbrev acts_in : List Deed → List Act
acts_in deeds = map act_of_deed deeds

numbered-same : (at : ℕ) (deeds : List Deed) → map act_of (numbered at deeds) ≡ acts_in deeds
numbered-same at [] = refl
numbered-same at (deed ∷ deeds) = ap (λ (acts : List Act). deed.act ∷ acts) (numbered-same (at + 1) deeds)

light-flat : (f : ℕ → List Deed) (lines frames : ℕ) → ((n : ℕ) → AreLight (acts_in (f n)) lines frames) → (ns : List ℕ)
    → AreLight (acts_in (flat_map f ns)) (length ns * lines) (length ns * frames)
light-flat f lines frames each [] = light-within [] 0 0 (0 * lines) (0 * frames) (omega arith) (omega arith) none-light
light-flat f lines frames each (n ∷ ns) =
    let rest = light-flat f lines frames each ns in
    let both = light-append (acts_in (f n)) (acts_in (flat_map f ns)) lines frames (length ns * lines) (length ns * frames) (each n) rest in
    let joined : acts_in (f n) ++ acts_in (flat_map f ns) ≡ acts_in (flat_map f (n ∷ ns)) = sym (map-append act_of_deed (f n) (flat_map f ns)) in
    subst (λ (acts : List Act). AreLight acts (length (n ∷ ns) * lines) (length (n ∷ ns) * frames)) joined
    (light-within (acts_in (f n) ++ acts_in (flat_map f ns)) (lines + length ns * lines) (frames + length ns * frames) (length (n ∷ ns) * lines) (length (n ∷ ns) * frames) (omega arith) (omega arith) both)

-- ---- the lines of a load

put-light : (n user j : ℕ) → AreLight (put n user j ∷ []) 1 1
put-light n user j =
    let one = sum_by-cons (bytes_by []) (put n user j) [] in
    record { few = omega arith; counted = omega arith; bytes = omega (arith, one); plain = (tt, tt); short = (tt, tt) }

syncs-light : (user : ℕ) (b : Bool) → AreLight (acts_in (cond b (syncs user) [])) 2 0
syncs-light user true = record { few = omega arith; counted = omega arith; bytes = omega arith; plain = (tt, (tt, tt)); short = (tt, (tt, tt)) }
syncs-light user false = light-within [] 0 0 2 0 (omega arith) (omega arith) none-light

frame-light : (n user j : ℕ) → AreLight (acts_in (frame_deeds n user j)) 3 1
frame-light n user j =
    light-append (put n user j ∷ []) (acts_in (cond (is_followed j) (syncs user) [])) 1 1 2 0 (put-light n user j) (syncs-light user (is_followed j))

user-light : (n user frames : ℕ) → AreLight (acts_in (user_deeds n user frames)) (frames * 3) (frames * 1)
unfolding user_deeds
user-light n user frames =
    subst (λ (count : ℕ). AreLight (acts_in (user_deeds n user frames)) (count * 3) (count * 1)) (length-range_with_len 0 frames)
    (light-flat (frame_deeds n user) 3 1 (frame-light n user) (range_with_len 0 frames))

block-light : (n : ℕ) → AreLight (acts_in (block_deeds n)) 24000 8000
block-light n = light-flat (λ user. user_deeds n user 2000) 6000 2000 (λ user. user-light n user 2000) users

opening-light : AreLight (acts_in opening) 8 0
opening-light = record { few = omega arith; counted = omega arith; bytes = omega arith; plain = (tt, (tt, (tt, (tt, (tt, (tt, (tt, (tt, tt)))))))); short = (tt, (tt, (tt, (tt, (tt, (tt, (tt, (tt, tt)))))))) }

acts-are : (n : ℕ) → flat_map acts_of_unit (load_program n).units ≡ acts_in opening ++ acts_in (block_deeds n)
acts-are n = ap (λ (acts : List Act). acts_in opening ++ acts) (append-nil (map act_of (numbered 10 (block_deeds n))) ∙ numbered-same 10 (block_deeds n))

load-light : (n : ℕ) → AreLight (flat_map acts_of_unit (load_program n).units) 24008 8000
load-light n = subst (λ (acts : List Act). AreLight acts 24008 8000) (sym (acts-are n)) (light-append (acts_in opening) (acts_in (block_deeds n)) 8 0 24000 8000 opening-light (block-light n))

-- it plays no files
none-played : (acts : List Act) → sum_by (frames_by []) acts ≡ 0
none-played [] = refl
none-played (act ∷ acts) = let all = sum_by-cons (frames_by []) act acts in let none = by act in let rest = none-played acts in omega (arith, all, none, rest)
  where
    by : (act : Act) → frames_by [] act ≡ 0
    by (Play name file batch) = refl
    by _ = refl

pub load-fits : (n : ℕ) → TasksFit (load_program n) [] VERSION_2
load-fits n =
    let light = load-light n in
    let none = none-played (flat_map acts_of_unit (load_program n).units) in
    let counted = light.counted in
    let few : sum_by count_of (flat_map acts_of_unit (load_program n).units) + sum_by (frames_by []) (flat_map acts_of_unit (load_program n).units) ≤ 8000 = omega (arith, counted, none) in
    tasks-fit (load_program n) [] VERSION_2 most_switch_ports 8000 24008 16384000 refl light.plain light.short (inl (omega arith)) few light.few light.bytes (omega arith) (omega arith)
