-- Buffers that went out of the places of a run, and others that came in: what stands before and after.
use Rattle.std.proofs.Common.{ℕ, zero, suc, nat_le, ◌≡◌, ◌<◌, ◌≤◌, ◌+◌, ◌-◌, Bool, true, false, nat_eq, if◌then◌else◌, List, [], ◌∷◌, ◌++◌, length, map, fold, set, reverse, Some, None, inl, inr, refl, sym, ◌∙◌, ap, arith, subst, length-append}
use Rattle.std.specs.Prelude.{is_some}
use Rattle.std.specs.List.{AllByRecursion, range_with_len}
use Rattle.std.proofs.lemmas.Bool.{cases_Bool}
use Rattle.std.proofs.lemmas.Bool.Decides.{nat_tests}
use Rattle.std.proofs.lemmas.List.{length-replicate, reverse-append}
use Rattle.nm_types.specs.declared.place.Place.{Place}
use Rattle.nm_types.specs.Places.{is_same_place}
use Rattle.nm_types.specs.Positions.{step_on, slots_from}
use Rattle.nm_types.specs.Buffers.{cleared_but}
use Rattle.nm_types.specs.OwnSyncs.{with_arrival}
use Rattle.nm_types.proofs.RingSteps.{step_on-step_on}
use Rattle.nm_region.specs.Buffers.{Buffer, indices_of}
use Rattle.nm_hold.specs.Standings.{buf_in}
use Rattle.nm_hold.specs.Holds.{HoldState, index_at, standing_at, with_cell, IsHold}
use Rattle.nm_hold.proofs.Spots.{same_place-is}
use Rattle.nm_port.specs.Own.{bytes_in_cell, AreWhole}
use Rattle.nm_port.specs.Regions.{AreOf, HoldsOf}
use Rattle.nm_port.specs.Sides.{place_on}
use Rattle.nm_port.specs.Filling.{placed, FlaggedBy, bytes_with}
use Rattle.nm_port.specs.declared.fill.Row.TheVariants.{Slots}
use Rattle.nm_own.specs.Opening.{blank_arrivals}
use Rattle.nm_port.specs.Closing.{AreTaken}
use Rattle.nm_port.specs.Exchanges.{is_among}
use Rattle.nm_port.specs.Lending.{IsOut, Run, place_of_run, AreOut}
use Rattle.nm_own.proofs.ComingIn.{all_turned, indices_turned}
use Rattle.nm_own.proofs.Opening.{cleared_all}
use Rattle.nm_port.proofs.Pushes.{seen_more}
use Rattle.nm_port.proofs.Taking.{emptied, none_taken, taken_next}
use Rattle.nm_own.proofs.PutOne.{stands_here, stood_there, bytes_with_one, whole_with_one}
use Rattle.nm_port.proofs.Regions.{holds_added}
use Rattle.nm_port.proofs.Undoing.{run_not_yet, index_back, put_back}

-- one buffer went out
module _ (mid now : HoldState) (q : Place) (named : Bool) (buf : Buffer) (out : IsOut mid now q named buf) where
  back : mid ≡ with_cell now buf.index (Some (placed q named buf))
  back = sym (put_back mid now q named buf out (with_cell now buf.index (Some (placed q named buf))) refl)

  there : index_at mid q ≡ Some buf.index
  there = (out.was_hold.standing buf.index (placed q named buf) out.stood).there

  flag_one : (was : Place → Bool) → FlaggedBy mid was → FlaggedBy now was × (was q ≡ named)
  flag_one was flagged = (
    (λ i s e. flagged i s (emptied mid.cells buf.index i s (sym (ap (λ (h : HoldState). standing_at h i) out.cell) ∙ e))),
    sym (flagged buf.index (placed q named buf) out.stood),
  )

  flag_back : (was : Place → Bool) → FlaggedBy now was → was q ≡ named → FlaggedBy mid was
  flag_back was flagged here i s e = elim (cases_Bool (nat_eq buf.index i)) [
    | inl same ↦ rw (← (stands_here now mid q named buf out.is_hold (index_back mid now q named buf out) back i s e same)) (sym here)
    | inr other ↦ flagged i s (stood_there now mid q named buf out.is_hold (index_back mid now q named buf out) back i s e other)
  ]

  bytes_one : map bytes_in_cell mid.cells ≡ set (map bytes_in_cell now.cells) buf.index buf.bytes
  bytes_one = bytes_with_one now mid q named buf out.is_hold (index_back mid now q named buf out) back

  whole_one : length buf.bytes ≡ 2048 → AreWhole now → AreWhole mid
  whole_one size whole = whole_with_one now mid q named buf out.is_hold (index_back mid now q named buf out) back size whole

  region_one : (region : ℕ) → buf.region ≡ region → HoldsOf region now → HoldsOf region mid
  region_one region own of = holds_added region now mid buf.index (placed q named buf) back own of

abbrev pub IsCleared : Buffer → Type 0
IsCleared b = b.bytes ≡ cleared_but []

-- buffers that went out, the last one first
module _ (run : Run) (unnamed : ℕ) where
  abbrev pub first_places : ℕ → List Place
  first_places n = map (place_on run.side run.id) (slots_from run.size run.first n)

  pub out_taken : (h now : HoldState) (bufs : List Buffer) → IsHold h → run.first < run.size → length bufs ≤ run.size → AreOut h run unnamed bufs now → AreTaken h now (first_places (length bufs)) [] (reverse bufs)
  out_taken h now [] is within few out = subst (λ (x : HoldState). AreTaken h x [] [] []) (sym out) (none_taken h [] is)
  out_taken h now (buf ∷ before) is within few out =
      let n = length before in
      let q = place_of_run run n in
      let o = out.1.0 in
      let fresh = run_not_yet run.side run.id run.size run.first n within (omega arith) in
      let taken = out_taken h out.0 before is within (omega arith) out.1.1 in
      let more = taken_next h out.0 now (first_places n) [] (reverse before) q buf taken fresh (there out.0 now q (nat_le unnamed n) buf o) (ap buf_in o.stood) o.cell o.index o.is_hold in
      let count : n + 1 ≡ suc n = omega arith in
      let places : first_places n ++ q ∷ [] ≡ first_places (suc n) = sym (seen_more (place_on run.side run.id) run.size run.first n) ∙ ap first_places count in
      subst (λ (ps : List Place). AreTaken h now ps [] (reverse (buf ∷ before))) places
      (subst (λ (bs : List Buffer). AreTaken h now (first_places n ++ q ∷ []) [] bs) (sym (reverse-append (buf ∷ []) before)) more)

  pub out_there : (h now : HoldState) (bufs : List Buffer) → IsHold h → run.first < run.size → length bufs ≤ run.size → AreOut h run unnamed bufs now → (k : ℕ) → k < length bufs → is_some (index_at h (place_of_run run k)) ≡ true
  out_there h now [] is within few out k below = absurd (omega arith)
  out_there h now (buf ∷ before) is within few out k below = elim (cases_Bool (nat_eq k (length before))) [
    | inl last ↦ (let n = length before in
        let q = place_of_run run n in
        let fresh = run_not_yet run.side run.id run.size run.first n within (omega arith) in
        let taken = out_taken h out.0 before is within (omega arith) out.1.1 in
        let stays : index_at out.0 q ≡ index_at h q = taken.index q ∙ ap (λ (b : Bool). if b then None else index_at h q) fresh in
        let at : k ≡ n = is_same k n last in
        ap (λ (j : ℕ). is_some (index_at h (place_of_run run j))) at ∙ ap is_some (sym stays ∙ there out.0 now q (nat_le unnamed n) buf out.1.0))
    | inr earlier ↦ out_there h out.0 before is within (omega arith) out.1.1 k (less k (length before) earlier (omega arith))
  ]
    where
      is_same : (a b : ℕ) → nat_eq a b ≡ true → a ≡ b
      is_same a b e = grind (arith, nat_tests)

      less : (a b : ℕ) → nat_eq a b ≡ false → a ≤ b → a < b
      less a b e f = grind (arith, nat_tests)

  pub flags_out : (h now : HoldState) (bufs : List Buffer) (was : Place → Bool) → AreOut h run unnamed bufs now → FlaggedBy h was → FlaggedBy now was × ((k : ℕ) → k < length bufs → was (place_of_run run k) ≡ nat_le unnamed k)
  flags_out h now [] was out flagged = (rw out flagged, (λ k below. absurd (omega arith)))
  flags_out h now (buf ∷ before) was out flagged =
      let n = length before in
      let earlier = flags_out h out.0 before was out.1.1 flagged in
      let one = flag_one out.0 now (place_of_run run n) (nat_le unnamed n) buf out.1.0 was earlier.0 in (
        one.0,
        (λ k below. elim (cases_Bool (nat_eq k n)) [
          | inl last ↦ (let at : k ≡ n = is_same k n last in rw at one.1)
          | inr first ↦ earlier.1 k (less k n first (omega arith))
        ]),
      )
    where
      is_same : (a b : ℕ) → nat_eq a b ≡ true → a ≡ b
      is_same a b e = grind (arith, nat_tests)

      less : (a b : ℕ) → nat_eq a b ≡ false → a ≤ b → a < b
      less a b e f = grind (arith, nat_tests)

  pub flags_in : (h now : HoldState) (bufs : List Buffer) (was : Place → Bool) → AreOut h run unnamed bufs now → FlaggedBy now was → ((k : ℕ) → k < length bufs → was (place_of_run run k) ≡ nat_le unnamed k) → FlaggedBy h was
  flags_in h now [] was out flagged each = rw (← out) flagged
  flags_in h now (buf ∷ before) was out flagged each =
      flags_in h out.0 before was out.1.1 (flag_back out.0 now (place_of_run run (length before)) (nat_le unnamed (length before)) buf out.1.0 was flagged (each (length before) (omega arith))) (λ k below. each k (omega arith))

  bytes_in : (h now : HoldState) (bufs : List Buffer) → AreOut h run unnamed bufs now → AllByRecursion IsCleared bufs → map bytes_in_cell h.cells ≡ fold with_arrival (map bytes_in_cell now.cells) (blank_arrivals (indices_of bufs))
  bytes_in h now [] out blank = ap (λ (x : HoldState). map bytes_in_cell x.cells) (sym out)
  bytes_in h now (buf ∷ before) out blank =
      bytes_in h out.0 before out.1.1 blank.1
      ∙ ap (λ (all : List (List ℕ)). fold with_arrival all (blank_arrivals (indices_of before)))
      (bytes_one out.0 now (place_of_run run (length before)) (nat_le unnamed (length before)) buf out.1.0 ∙ ap (λ (b : List ℕ). set (map bytes_in_cell now.cells) buf.index b) blank.0)

  pub whole_in : (h now : HoldState) (bufs : List Buffer) → AreOut h run unnamed bufs now → AllByRecursion IsCleared bufs → AreWhole now → AreWhole h
  whole_in h now [] out blank whole = rw (← out) whole
  whole_in h now (buf ∷ before) out blank whole =
      whole_in h out.0 before out.1.1 blank.1 (whole_one out.0 now (place_of_run run (length before)) (nat_le unnamed (length before)) buf out.1.0 (ap (λ (b : List ℕ). length b) blank.0 ∙ length-replicate {A = ℕ} 2048 0) whole)

  pub region_in : (region : ℕ) (h now : HoldState) (bufs : List Buffer) → AreOut h run unnamed bufs now → AreOf region bufs → HoldsOf region now → HoldsOf region h
  region_in region h now [] out are of = rw (← out) of
  region_in region h now (buf ∷ before) out are of =
      region_in region h out.0 before out.1.1 are.1 (region_one out.0 now (place_of_run run (length before)) (nat_le unnamed (length before)) buf out.1.0 region are.0 of)

-- whatever the order of buffers all of whose bytes are zero
turned_bytes : (idxs : List ℕ) (b : List (List ℕ)) → fold with_arrival b (blank_arrivals (reverse idxs)) ≡ bytes_with Slots idxs b
turned_bytes [] b = refl
turned_bytes (i ∷ idxs) b =
    ap (λ (is : List ℕ). fold with_arrival b (blank_arrivals is)) (reverse-append (i ∷ []) idxs)
    ∙ (joined (reverse idxs) i b ∙ ap (λ (all : List (List ℕ)). set all i (cleared_but [])) (turned_bytes idxs b))
  where
    joined : (is : List ℕ) (i : ℕ) (b : List (List ℕ)) → fold with_arrival b (blank_arrivals (is ++ i ∷ [])) ≡ set (fold with_arrival b (blank_arrivals is)) i (cleared_but [])
    joined [] i b = refl
    joined (j ∷ is) i b = joined is i (set b j (cleared_but []))

pub came_bytes : (run : Run) (unnamed : ℕ) (h now : HoldState) (came : List Buffer) → AreOut h run unnamed (reverse came) now → AllByRecursion IsCleared came
    → map bytes_in_cell h.cells ≡ fold with_arrival (map bytes_in_cell now.cells) (blank_arrivals (indices_of came))
came_bytes run unnamed h now came out blank =
    bytes_in run unnamed h now (reverse came) out (all_turned IsCleared came blank)
    ∙ (ap (λ (is : List ℕ). fold with_arrival (map bytes_in_cell now.cells) (blank_arrivals is)) (indices_turned came)
    ∙ (turned_bytes (indices_of came) (map bytes_in_cell now.cells) ∙ sym (cleared_all (indices_of came) (map bytes_in_cell now.cells))))

-- the first buffers of a run apart from those behind them
abbrev pub run_behind : Run → ℕ → Run
run_behind run n = record run { first = step_on run.size run.first n }

behind_place : (run : Run) (n k : ℕ) → place_of_run (run_behind run n) k ≡ place_of_run run (k + n)
behind_place run n k = let turn : n + k ≡ k + n = omega arith in ap (place_on run.side run.id) (step_on-step_on run.size run.first n k ∙ ap (step_on run.size run.first) turn)

behind_flag : (u n k : ℕ) → nat_le (u - n) k ≡ nat_le u (k + n)
behind_flag u n k = grind (arith, nat_tests)

pub split_out : (run : Run) (unnamed : ℕ) (h now : HoldState) (rest gone : List Buffer) → AreOut h run unnamed (rest ++ gone) now
    → (mid : HoldState) × (AreOut h run unnamed gone mid × AreOut mid (run_behind run (length gone)) (unnamed - length gone) rest now)
split_out run unnamed h now [] gone out = (now, (out, refl))
split_out run unnamed h now (b ∷ rest) gone out =
    let x = split_out run unnamed h out.0 rest gone out.1.1 in
    let count : length (rest ++ gone) ≡ length rest + length gone = length-append rest gone in
    let place : place_of_run run (length (rest ++ gone)) ≡ place_of_run (run_behind run (length gone)) (length rest) = ap (place_of_run run) count ∙ sym (behind_place run (length gone) (length rest)) in
    let flag : nat_le unnamed (length (rest ++ gone)) ≡ nat_le (unnamed - length gone) (length rest) = ap (nat_le unnamed) count ∙ sym (behind_flag unnamed (length gone) (length rest)) in
    let one = subst (λ (q : Place). IsOut out.0 now q (nat_le unnamed (length (rest ++ gone))) b) place out.1.0 in
    (x.0, (x.1.0, (out.0, (subst (λ (f : Bool). IsOut out.0 now (place_of_run (run_behind run (length gone)) (length rest)) f b) flag one, x.1.1))))

-- what holds of each of the first places
pub among_first : (f : Place → Bool) (run : Run) (n : ℕ) (q : Place) → ((k : ℕ) → k < n → f (place_of_run run k) ≡ true) → is_among (map (place_on run.side run.id) (slots_from run.size run.first n)) q ≡ true → f q ≡ true
among_first f run n q each among = over 0 n (λ k below. each k (omega arith)) among
  where
    over : (a n : ℕ) → ((k : ℕ) → k < a + n → f (place_of_run run k) ≡ true) → is_among (map (place_on run.side run.id) (map (step_on run.size run.first) (range_with_len a n))) q ≡ true → f q ≡ true
    over a zero each among = absurd cc
    over a (suc n) each among = elim (cases_Bool (is_same_place (place_of_run run a) q)) [
      | inl same ↦ ap f (sym (same_place-is (place_of_run run a) q same)) ∙ each a (omega arith)
      | inr other ↦ over (a + 1) n (λ k below. each k (omega arith)) (rw other at among)
    ]
