-- The buffers that a hold takes out of the slots of a run, as a port counts them.
use Rattle.std.proofs.Common.{ℕ, suc, nat_le, ◌≡◌, ◌<◌, ◌≤◌, ◌+◌, List, [], ◌∷◌, ◌++◌, length, map, reverse, drop, refl, sym, ◌∙◌, ap, arith, append_assoc}
use Rattle.std.proofs.Math.Seq.{drop-append_seam}
use Rattle.std.proofs.lemmas.List.{reverse-append, reverse-reverse, length-reverse, append-nil}
use Rattle.nm_types.specs.declared.id.PortId.{PortId}
use Rattle.nm_types.specs.declared.id.Side.{Side}
use Rattle.nm_types.specs.declared.id.Side.TheVariants.{Tx, Rx}
use Rattle.nm_types.specs.Positions.{step_on, slots_from}
use Rattle.nm_region.specs.Buffers.{Buffer}
use Rattle.nm_hold.specs.declared.taking.SlotRun.{SlotRun}
use Rattle.nm_hold.specs.Holds.{HoldState, slot_on, IsHold}
use Rattle.nm_hold.specs.Takes.{IsRemoved, AreRemoved, AreTakenBehind}
use Rattle.nm_port.specs.Sides.{place_on}
use Rattle.nm_port.specs.Closing.{AreTaken}
use Rattle.nm_port.specs.Lending.{Run, place_of_run, AreOut, AreNamedAs}
use Rattle.nm_port.proofs.Pushes.{seen_more}
use Rattle.nm_port.proofs.Taking.{none_taken, taken_next}
use Rattle.nm_port.proofs.Undoing.{run_not_yet, taken_out}

pub slot_is : (side : Side) (port : PortId) (at : ℕ) → slot_on side port at ≡ place_on side port at
slot_is Tx port at = refl
slot_is Rx port at = refl

abbrev run_of : SlotRun → Run
run_of r = record { id = r.port; side = r.side; size = r.size; first = r.first }

-- the buffers in the first slots are out, and each was named as these flags tell
record Out (h now : HoldState) (r : SlotRun) (before bufs : List Buffer) : Type 0 where
  taken : AreTaken h now (map (place_on r.side r.port) (slots_from r.size r.first (length bufs))) before (before ++ reverse bufs)
  out : (unnamed : ℕ) → ((k : ℕ) → k < length bufs → AreNamedAs (nat_le unnamed k) h (place_of_run (run_of r) k)) → AreOut h (run_of r) unnamed bufs now

module _ (h : HoldState) (is : IsHold h) (r : SlotRun) (within : r.first < r.size) (before : List Buffer) where
  one_more : (mid now : HoldState) (bufs : List Buffer) (buf : Buffer) → length bufs < r.size → Out h mid r before bufs → IsRemoved mid now (place_on r.side r.port (step_on r.size r.first (length bufs))) buf → Out h now r before (buf ∷ bufs)
  one_more mid now bufs buf few rest one =
      let k = length bufs in
      let q = place_on r.side r.port (step_on r.size r.first k) in
      let done = map (place_on r.side r.port) (slots_from r.size r.first k) in
      let after = before ++ reverse bufs in
      let fresh = run_not_yet r.side r.port r.size r.first k within few in
      let next : suc k ≡ k + 1 = omega arith in
      let more : map (place_on r.side r.port) (slots_from r.size r.first (suc k)) ≡ done ++ q ∷ [] = ap (λ (n : ℕ). map (place_on r.side r.port) (slots_from r.size r.first n)) next ∙ seen_more (place_on r.side r.port) r.size r.first k in
      let joined : before ++ reverse (buf ∷ bufs) ≡ after ++ buf ∷ [] = ap (λ (xs : List Buffer). before ++ xs) (reverse-append (buf ∷ []) bufs) ∙ sym (append_assoc before (reverse bufs) (buf ∷ [])) in
      record {
        taken = rw (more, joined) (taken_next h mid now done before after q buf rest.taken fresh one.index one.buffer one.cell one.places one.hold);
        out = λ unnamed flags.
            (mid, (taken_out h mid done before after rest.taken q fresh now buf (nat_le unnamed k) one.index one.buffer one.cell one.places one.hold (flags k (omega arith)), rest.out unnamed (λ j below. flags j (omega (arith, below)))));
      }

  all_out : (now : HoldState) (bufs : List Buffer) → length bufs ≤ r.size → AreRemoved h r bufs now → Out h now r before bufs
  all_out now [] few same = record { taken = rw (same, append-nil before) (none_taken h before is); out = λ unnamed flags. same }
  all_out now (buf ∷ bufs) few removed =
      let mid = removed.0 in
      let rest = all_out mid bufs (omega (arith, few)) removed.1.0 in
      let one = rw (slot_is r.side r.port (step_on r.size r.first (length bufs))) at removed.1.1 in
      one_more mid now bufs buf (omega (arith, few)) rest one

  module _ (count : ℕ) (few : count ≤ r.size) (now : HoldState) (after : List Buffer) (behind : AreTakenBehind h r count now before after) where
    number : length (reverse behind.out) ≡ count
    number = length-reverse behind.out ∙ behind.count

    all : Out h now r before (reverse behind.out)
    all = all_out now (reverse behind.out) (rw number few) behind.removed

    pub run_taken : AreTaken h now (map (place_on r.side r.port) (slots_from r.size r.first count)) before after
    run_taken =
        let joined : before ++ reverse (reverse behind.out) ≡ after = ap (λ (xs : List Buffer). before ++ xs) (reverse-reverse behind.out) ∙ sym behind.joined in
        rw (number, joined) at all.taken

    pub run_out : (unnamed : ℕ) → ((k : ℕ) → k < count → AreNamedAs (nat_le unnamed k) h (place_of_run (run_of r) k)) → AreOut h (run_of r) unnamed (reverse (drop (length before) after)) now
    run_out unnamed flags =
        let last : drop (length before) after ≡ behind.out = ap (drop (length before)) behind.joined ∙ drop-append_seam before behind.out in
        rw last (all.out unnamed (λ k below. flags k (rw (← number) below)))
