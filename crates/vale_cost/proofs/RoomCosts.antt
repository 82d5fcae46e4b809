-- What a line has its user put and call.
use Rattle.std.proofs.Common.{ℕ, zero, suc, ◌+◌, ◌-◌, ◌*◌, ◌≤◌, ◌≡◌, Bool, true, false, cond, ◌==◌, List, [], ◌∷◌, ◌++◌, filter, replicate, length, refl, arith}
use Rattle.std.specs.Prelude.{sum_by}
use Rattle.std.proofs.lemmas.List.{length-take}
use Rattle.std.proofs.lemmas.List.Sums.{sum_by-cons}
use Rattle.vale_script.specs.declared.script.Act.{Act}
use Rattle.vale_script.specs.declared.script.Act.TheVariants as acts
use Rattle.nm_types.specs.declared.id.Mac.{Mac}
use Rattle.nm_types.proofs.PartLemmas.{slots-tight}
use Rattle.vale_replay.specs.Tasks.{Task, PutFrame, SendFrames, EndLine, fits_to_play, frame_of_put, played_before_sync, tasks_of_line}
use Rattle.vale_cost.specs.Completeness.{Sends, Bytes, Calls, Opens, cost_of_task, IsPlainAct, LineCosts, LinesCostLittle, frames_put, bytes_put, opens_by}
use Rattle.vale_cost.proofs.RoomRests.{cost_in, ArePlain}

-- what tasks cost at most: so many Sends, bytes and calls
pub record Costs (tasks : List Task) (sends bytes calls : ℕ) : Type 0 where
  pub sends_are : cost_in Sends tasks ≤ sends
  pub bytes_are : cost_in Bytes tasks ≤ bytes
  pub calls_are : cost_in Calls tasks ≤ calls
  pub opens_are : (switch : List ℕ) → cost_in (Opens switch) tasks ≡ 0
  pub are_plain : ArePlain tasks

put-costs : (name frame : List ℕ) (rest : List Task) (sends bytes calls : ℕ) → Costs rest sends bytes calls
    → Costs (PutFrame name frame ∷ rest) (suc sends) (length frame + 2048 + bytes) (3 + calls)
put-costs name frame rest sends bytes calls c =
    let s = sum_by-cons (cost_of_task Sends) (PutFrame name frame) rest in
    let b = sum_by-cons (cost_of_task Bytes) (PutFrame name frame) rest in
    let k = sum_by-cons (cost_of_task Calls) (PutFrame name frame) rest in
    let tight = slots-tight (length frame) in
    record {
      sends_are = omega (arith, s, c.sends_are);
      bytes_are = omega (arith, b, tight, c.bytes_are);
      calls_are = omega (arith, k, c.calls_are);
      opens_are = λ switch. (let o = sum_by-cons (cost_of_task (Opens switch)) (PutFrame name frame) rest in let none = c.opens_are switch in omega (arith, o, none));
      are_plain = (tt, c.are_plain);
    }

send-costs : (name : List ℕ) (rest : List Task) (sends bytes calls : ℕ) → Costs rest sends bytes calls → Costs (SendFrames name ∷ rest) sends bytes (3 + calls)
send-costs name rest sends bytes calls c =
    let s = sum_by-cons (cost_of_task Sends) (SendFrames name) rest in
    let b = sum_by-cons (cost_of_task Bytes) (SendFrames name) rest in
    let k = sum_by-cons (cost_of_task Calls) (SendFrames name) rest in
    record {
      sends_are = omega (arith, s, c.sends_are);
      bytes_are = omega (arith, b, c.bytes_are);
      calls_are = omega (arith, k, c.calls_are);
      opens_are = λ switch. (let o = sum_by-cons (cost_of_task (Opens switch)) (SendFrames name) rest in let none = c.opens_are switch in omega (arith, o, none));
      are_plain = (tt, c.are_plain);
    }

end-costs : Costs (EndLine ∷ []) 0 0 0
end-costs = record { sends_are = omega arith; bytes_are = omega arith; calls_are = omega arith; opens_are = λ switch. refl; are_plain = (tt, tt) }

weaker : (tasks : List Task) (sends bytes calls more_sends more_bytes more_calls : ℕ) → sends ≤ more_sends → bytes ≤ more_bytes → calls ≤ more_calls
    → Costs tasks sends bytes calls → Costs tasks more_sends more_bytes more_calls
weaker tasks sends bytes calls more_sends more_bytes more_calls s b k c = record {
  sends_are = omega (arith, s, c.sends_are);
  bytes_are = omega (arith, b, c.bytes_are);
  calls_are = omega (arith, k, c.calls_are);
  opens_are = c.opens_are;
  are_plain = c.are_plain;
}

frame-short : (to from : Mac) (len fill : ℕ) → length (frame_of_put to from len fill) ≤ len
frame-short to from len fill = let short = length-take len (to.0 ++ (from.0 ++ (136 ∷ 181 ∷ replicate len fill))) in omega (arith, short)

puts-cost : (name frame : List ℕ) (len count : ℕ) → length frame ≤ len → Costs (replicate count (PutFrame name frame) ++ EndLine ∷ []) count (count * len + 2048 * count) (6 * count + 3)
puts-cost name frame len zero short = weaker (EndLine ∷ []) 0 0 0 0 (0 * len + 2048 * 0) 3 (omega arith) (omega arith) (omega arith) end-costs
puts-cost name frame len (suc count) short =
    weaker _ (suc count) (length frame + 2048 + (count * len + 2048 * count)) (3 + (6 * count + 3)) (suc count) (suc count * len + 2048 * suc count) (6 * suc count + 3) (omega arith) (omega (arith, short)) (omega arith)
    (put-costs name frame (replicate count (PutFrame name frame) ++ EndLine ∷ []) count (count * len + 2048 * count) (6 * count + 3) (puts-cost name frame len count short))

abbrev played_bytes : List (List ℕ) → ℕ
played_bytes frames = sum_by length frames + 2048 * length frames

played-cost : (name : List ℕ) (batch left : ℕ) (frames : List (List ℕ)) → Costs (played_before_sync name batch left frames ++ EndLine ∷ []) (length frames) (played_bytes frames) (6 * length frames + 3)
played-cost name batch left [] = by (left == batch)
  where
    by : (b : Bool) → Costs (cond b [] (SendFrames name ∷ []) ++ EndLine ∷ []) 0 0 3
    by true = weaker (EndLine ∷ []) 0 0 0 0 0 3 (omega arith) (omega arith) (omega arith) end-costs
    by false = send-costs name (EndLine ∷ []) 0 0 0 end-costs
played-cost name batch left (bytes ∷ frames) = by (left == 1) (played-cost name batch batch frames) (played-cost name batch (left - 1) frames)
  where
    most : ℕ
    most = 6 * length frames + 3

    all : sum_by length (bytes ∷ frames) ≡ length bytes + sum_by length frames
    all = sum_by-cons length bytes frames

    by : (b : Bool) → Costs (played_before_sync name batch batch frames ++ EndLine ∷ []) (length frames) (played_bytes frames) most
        → Costs (played_before_sync name batch (left - 1) frames ++ EndLine ∷ []) (length frames) (played_bytes frames) most
        → Costs (cond b (PutFrame name bytes ∷ SendFrames name ∷ played_before_sync name batch batch frames) (PutFrame name bytes ∷ played_before_sync name batch (left - 1) frames) ++ EndLine ∷ []) (suc (length frames))
        (played_bytes (bytes ∷ frames)) (6 * suc (length frames) + 3)
    by true synced rest =
        weaker _ (suc (length frames)) (length bytes + 2048 + played_bytes frames) (3 + (3 + most)) (suc (length frames)) (played_bytes (bytes ∷ frames)) (6 * suc (length frames) + 3) (omega arith) (omega (arith, all)) (omega arith)
        (put-costs name bytes (SendFrames name ∷ played_before_sync name batch batch frames ++ EndLine ∷ []) (length frames) (played_bytes frames) (3 + most)
        (send-costs name (played_before_sync name batch batch frames ++ EndLine ∷ []) (length frames) (played_bytes frames) most synced))
    by false synced rest =
        weaker _ (suc (length frames)) (length bytes + 2048 + played_bytes frames) (3 + most) (suc (length frames)) (played_bytes (bytes ∷ frames)) (6 * suc (length frames) + 3) (omega arith) (omega (arith, all)) (omega arith)
        (put-costs name bytes (played_before_sync name batch (left - 1) frames ++ EndLine ∷ []) (length frames) (played_bytes frames) most rest)

less-kept : (test : List ℕ → Bool) (xs : List (List ℕ)) → length (filter test xs) ≤ length xs
less-kept test [] = omega arith
less-kept test (x ∷ xs) = by (test x) (less-kept test xs)
  where
    by : (b : Bool) → length (filter test xs) ≤ length xs → length (cond b (x ∷ filter test xs) (filter test xs)) ≤ suc (length xs)
    by true rest = omega (arith, rest)
    by false rest = omega (arith, rest)

line-of : (records : List ℕ → List (List ℕ)) (act : Act) → ((switch : List ℕ) → opens_by switch act ≡ 0)
    → Costs (tasks_of_line records act) (frames_put records act) (bytes_put records act + 2048 * frames_put records act) (6 * frames_put records act + 3) → LineCosts records act
line-of records act none c = record {
  sends = c.sends_are;
  bytes = c.bytes_are;
  calls = c.calls_are;
  opens = λ switch. (let zero_opens = c.opens_are switch in omega (arith, zero_opens));
  plain = λ p. c.are_plain;
}

-- a line that puts no frame
free-line : (records : List ℕ → List (List ℕ)) (act : Act) → cost_in Sends (tasks_of_line records act) ≡ 0 → cost_in Bytes (tasks_of_line records act) ≡ 0
    → cost_in Calls (tasks_of_line records act) ≤ 3 → ((switch : List ℕ) → cost_in (Opens switch) (tasks_of_line records act) ≡ opens_by switch act) → (IsPlainAct act → ArePlain (tasks_of_line records act))
    → LineCosts records act
free-line records act none short few opens plain =
    record { sends = omega (arith, none); bytes = omega (arith, short); calls = omega (arith, few); opens = λ switch. (let same = opens switch in omega (arith, same)); plain = plain }

pub lines-cost : LinesCostLittle
lines-cost records acts.Enter = free-line records acts.Enter refl refl (omega arith) (λ switch. refl) (λ p. (tt, (tt, tt)))
lines-cost records (acts.Open name tx rx extra) = free-line records (acts.Open name tx rx extra) refl refl (omega arith) (λ switch. omega arith) (λ p. (tt, (tt, tt)))
lines-cost records (acts.Put name count to from len fill) =
    line-of records (acts.Put name count to from len fill) (λ switch. refl) (puts-cost name (frame_of_put to from len fill) len count (frame-short to from len fill))
lines-cost records (acts.Hex name frame) =
    line-of records (acts.Hex name frame) (λ switch. refl)
    (weaker (PutFrame name frame.bytes ∷ EndLine ∷ []) 1 (length frame.bytes + 2048 + 0) 3 1 (length frame.bytes + 2048 * 1) (6 * 1 + 3) (omega arith) (omega arith) (omega arith)
    (put-costs name frame.bytes (EndLine ∷ []) 0 0 0 end-costs))
lines-cost records (acts.Play name file batch) =
    let kept = filter (fits_to_play name) (records file) in
    let few = less-kept (fits_to_play name) (records file) in
    line-of records (acts.Play name file batch) (λ switch. refl)
    (weaker _ (length kept) (played_bytes kept) (6 * length kept + 3) (length (records file)) (sum_by length kept + 2048 * length (records file)) (6 * length (records file) + 3) few (omega (arith, few)) (omega (arith, few))
    (played-cost name batch batch kept))
lines-cost records (acts.Tx name) = free-line records (acts.Tx name) refl refl (omega arith) (λ switch. refl) (λ p. (tt, (tt, tt)))
lines-cost records (acts.Rx name true) = free-line records (acts.Rx name true) refl refl (omega arith) (λ switch. refl) (λ p. (tt, (tt, tt)))
lines-cost records (acts.Rx name false) = free-line records (acts.Rx name false) refl refl (omega arith) (λ switch. refl) (λ p. (tt, (tt, (tt, tt))))
lines-cost records (acts.Fwd from to count) = free-line records (acts.Fwd from to count) refl refl (omega arith) (λ switch. refl) (λ p. (p, (tt, tt)))
lines-cost records (acts.Poke name side slot field value) = free-line records (acts.Poke name side slot field value) refl refl (omega arith) (λ switch. refl) (λ p. (p, (tt, tt)))
lines-cost records (acts.Move name side head cur) = free-line records (acts.Move name side head cur) refl refl (omega arith) (λ switch. refl) (λ p. (p, (tt, tt)))
lines-cost records (acts.Swap name side slot other other_side other_slot quiet) =
    free-line records (acts.Swap name side slot other other_side other_slot quiet) refl refl (omega arith) (λ switch. refl) (λ p. (p, (tt, tt)))
lines-cost records (acts.Extra name i j) = free-line records (acts.Extra name i j) refl refl (omega arith) (λ switch. refl) (λ p. (p, (tt, tt)))
lines-cost records (acts.Watch monitor target sides) = free-line records (acts.Watch monitor target sides) refl refl (omega arith) (λ switch. refl) (λ p. (tt, (tt, tt)))
lines-cost records (acts.Stat name) = free-line records (acts.Stat name) refl refl (omega arith) (λ switch. refl) (λ p. (tt, (tt, tt)))
lines-cost records (acts.Save name file) = free-line records (acts.Save name file) refl refl (omega arith) (λ switch. refl) (λ p. (tt, (tt, tt)))
lines-cost records (acts.Close name) = free-line records (acts.Close name) refl refl (omega arith) (λ switch. refl) (λ p. (tt, (tt, (tt, tt))))
