use Rattle.std.proofs.Common.{ℕ, Bool, List, [], ◌∷◌, ◌++◌, ◌≡◌, ◌≤◌, ◌+◌, ◌-◌, ◌∙◌, Some, None, length, map, drop, true, ap, refl, arith}
use Rattle.std.proofs.lemmas.List.{map-append, length-set}
use Rattle.std.proofs.lemmas.Result.{err_from_is_err_and}
use Rattle.nm_types.specs.Positions.{step_on, slots_from}
use Rattle.nm_types.specs.Slots.{Pushed, pushed_names}
use Rattle.nm_types.specs.SyncChecks.{slots_refusal, slot_refusal, seen_of, is_closing, begun_after}
use Rattle.nm_hold.specs.Holds.{buffers_of}
use Rattle.nm_port.specs.Sides.{AreMarked, AreMarkedOf, pushed_seen_at, pushed_seen}
use Rattle.nm_port.proofs.Judging.{judged_next, judged_bad, rest-next, rest-none, rest-count, marked_more, begun_after-most}
use Rattle.nm_port.proofs.Pushes.{user_at, seen_more, names_taken}
use Rattle.nm_port.proofs.checks.judge_pushed.Goals as goal
use Rattle.nm_port.proofs.checks.judge_pushed.Goals.{After-size-size}

-- the pushed slots, as they are gone through
seen : (c : After-size-size) → pushed_seen c.args.hold.now c.args.port c.args.ring.now ≡ map (pushed_seen_at c.args.hold.now c.args.port c.args.ring.now) (slots_from c.size-size.result c.pushed-first.result.0 c.pushed-first.result.1)
seen c = rw (c.pushed-first.ensures.first, c.pushed-first.ensures.count, c.size-size.ensures.size, c.ring.ensures.ring) refl

-- the names that are marked are the first ones of these
marked_first : (c : After-size-size) (marks : List Bool) (k : ℕ) → k ≤ c.pushed-first.result.1
    → AreMarked marks (pushed_names (map (pushed_seen_at c.args.hold.now c.args.port c.args.ring.now) (slots_from c.size-size.result c.pushed-first.result.0 k)))
    → AreMarkedOf marks (pushed_names (pushed_seen c.args.hold.now c.args.port c.args.ring.now))
marked_first c marks k below marked = (k, rw (seen c, ← names_taken (pushed_seen_at c.args.hold.now c.args.port c.args.ring.now) c.size-size.result c.pushed-first.result.0 c.pushed-first.result.1 k below) marked)

pub judge_slot-requires-clause-user : goal.judge_slot-requires-clause-user
judge_slot-requires-clause-user c = user_at c.args.ring.now.ring _ _ _ _ c.loop-k.k c.size-size.ensures.size c.ring.ensures.ring c.pushed-first.ensures.first c.pushed-first.ensures.count c.pushed-first.ensures.slots.ring c.requires.fits c.loop-k-test.true

pub user_slot-requires : goal.user_slot-requires
user_slot-requires c = user_at c.args.ring.now.ring _ _ _ _ c.loop-k.k c.size-size.ensures.size c.ring.ensures.ring c.pushed-first.ensures.first c.pushed-first.ensures.count c.pushed-first.ensures.slots.ring c.requires.fits c.loop-k-test.true

-- whether a frame must end in the slot that is judged
closing_is : (f : ℕ → Pushed) (size first count k begun : ℕ) (whole closing : Bool) → closing ≡ is_closing whole begun (count - 1 - k)
    → closing ≡ is_closing whole begun (length (drop (k + 1) (map f (slots_from size first count))))
closing_is f size first count k begun whole closing is =
    let same : count - 1 - k ≡ length (drop (k + 1) (map f (slots_from size first count))) = (let left = rest-count f size first count (k + 1) in omega (arith, left)) in
    is ∙ ap (is_closing whole begun) same

pub returns-in_err-judge_slot-clause-refusal : goal.returns-in_err-judge_slot-clause-refusal
returns-in_err-judge_slot-clause-refusal c named well =
    let h = c.args.hold.now in
    let f = pushed_seen_at h c.args.port c.args.ring.now in
    let size = c.size-size.result in
    let first = c.pushed-first.result.0 in
    let count = c.pushed-first.result.1 in
    let k = c.loop-k.k in
    let begun = c.loop-k.begun in
    let whole = c.args.whole in
    let fault = c.in_err-judge_slot.field-0.0 in
    let names = pushed_names (map f (slots_from size first k)) in
    let x = f (step_on size first k) in
    let others = drop (k + 1) (map f (slots_from size first count)) in
    let closing = closing_is f size first count k begun whole c.is_closing-closing.result c.is_closing-closing.ensures in
    let told = c.in_err-judge_slot.ensures.refusal named names well c.loop-k.invariant.marked in
    let here : slot_refusal c.args.ring.now.side (seen_of (is_closing whole begun (length others)) (buffers_of h) named names x) x.at x.slot ≡ Some fault = rw closing at told in
    let bad = judged_bad c.args.ring.now.side whole (buffers_of h) named names begun x others fault here in
    let next = rest-next f size first count k c.loop-k-test.true in
    let p = err_from_is_err_and c.from_residual.result c.from_residual.ensures.1 in
    let is = seen (goal.at.returns-in_err-judge_slot-clause-refusal c).After-size-size in
    rw (p.1, p.2) (ap (slots_refusal c.args.ring.now.side whole (buffers_of h) named [] 0) is
    ∙ (c.loop-k.invariant.left named well ∙ (ap (slots_refusal c.args.ring.now.side whole (buffers_of h) named names begun) next ∙ bad)))

pub returns-in_err-judge_slot-clause-marks : goal.returns-in_err-judge_slot-clause-marks
returns-in_err-judge_slot-clause-marks c =
    let marks : c.judge_slot.new.marks ≡ c.loop-k.marks = c.in_err-judge_slot.ensures.marks in
    rw marks (marked_first (goal.at.returns-in_err-judge_slot-clause-marks c).After-size-size c.loop-k.marks c.loop-k.k (omega (arith, c.loop-k-test.true)) c.loop-k.invariant.marked)

pub loop-k-preserved : goal.loop-k-preserved
loop-k-preserved c =
    let h = c.args.hold.now in
    let f = pushed_seen_at h c.args.port c.args.ring.now in
    let size = c.size-size.result in
    let first = c.pushed-first.result.0 in
    let count = c.pushed-first.result.1 in
    let k = c.loop-k.k in
    let begun = c.loop-k.begun in
    let whole = c.args.whole in
    let side = c.args.ring.now.side in
    let x = f (step_on size first k) in
    let before = pushed_names (map f (slots_from size first k)) in
    let others = drop (k + 1) (map f (slots_from size first count)) in
    let closing = closing_is f size first count k begun whole c.is_closing-closing.result c.is_closing-closing.ensures in
    let more = seen_more f size first k in
    let names : pushed_names (map f (slots_from size first (k + 1))) ≡ before ++ x.slot.buf_idx ∷ [] =
    ap pushed_names more ∙ map-append (λ (p : Pushed). p.slot.buf_idx) (map f (slots_from size first k)) (x ∷ []) in
    let now : c.begun_after-begun.result ≡ begun_after begun x.slot = c.begun_after-begun.ensures ∙ ap (begun_after begun) c.user_slot.ensures in
    let next = rest-next f size first count k c.loop-k-test.true in
    record {
      left = λ named well. (let told = c.in_ok-judge_slot.ensures.refusal named before well c.loop-k.invariant.marked in
          let here : slot_refusal side (seen_of (is_closing whole begun (length others)) (buffers_of h) named before x) x.at x.slot ≡ None = rw closing at told in
          rw (names, now) (c.loop-k.invariant.left named well
          ∙ (ap (slots_refusal side whole (buffers_of h) named before begun) next ∙ judged_next side whole (buffers_of h) named before begun x others here)));
      marked = rw (c.in_ok-judge_slot.ensures.marks, names) (marked_more c.loop-k.marks before x.slot.buf_idx c.loop-k.invariant.marked);
      length_is = rw c.in_ok-judge_slot.ensures.marks (length-set c.loop-k.marks x.slot.buf_idx true ∙ c.loop-k.invariant.length_is);
      few = (let most = begun_after-most begun x.slot in let few = c.loop-k.invariant.few in omega (arith, now, most, few));
    }

pub returns-clause-marks : goal.returns-clause-marks
returns-clause-marks c = marked_first (goal.at.returns-clause-marks c).After-size-size c.loop-k.marks c.loop-k.k (omega (arith, c.loop-k.auto.k-end)) c.loop-k.invariant.marked

pub returns-clause-refusal : goal.returns-clause-refusal
returns-clause-refusal c named well =
    let h = c.args.hold.now in
    let f = pushed_seen_at h c.args.port c.args.ring.now in
    let size = c.size-size.result in
    let first = c.pushed-first.result.0 in
    let count = c.pushed-first.result.1 in
    let k = c.loop-k.k in
    let whole = c.args.whole in
    let side = c.args.ring.now.side in
    let names = pushed_names (map f (slots_from size first k)) in
    let end : count ≡ k = omega (arith, c.loop-k-test.false, c.loop-k.auto.k-end) in
    let none = rest-none f size first count k end in
    let is = seen (goal.at.returns-clause-refusal c).After-size-size in
    ap (slots_refusal side whole (buffers_of h) named [] 0) is
    ∙ (c.loop-k.invariant.left named well ∙ ap (slots_refusal side whole (buffers_of h) named names c.loop-k.begun) none)
