use Rattle.std.proofs.Common.{Bool, false, None, List, [], ◌∷◌, ◌++◌, ◌≡◌, ◌∙◌, ◌+◌, length, map, refl, sym, ap, arith}
use Rattle.nm_types.specs.Positions.{slots_from}
use Rattle.nm_types.specs.Frames.{Frame}
use Rattle.nm_types.specs.Slots.{SlotState}
use Rattle.nm_port.specs.RingSlots.{slot_at}
use Rattle.nm_port.specs.Own.{bytes_in_hold}
use Rattle.nm_port.specs.Gathered.{gathered, goes_on_behind, slots_pushed}
use Rattle.nm_port.proofs.SideBySide.{slots_more}
use Rattle.nm_port.proofs.Gathering.{gathered-append, goes_on-append, gathered-joined}
use Rattle.nm_port.proofs.gather.gather.Goals as goal

map-same : (xs : List SlotState) → map (λ (s : SlotState). s) xs ≡ xs
map-same [] = refl
map-same (x ∷ xs) = ap (λ (ys : List SlotState). x ∷ ys) (map-same xs)

pub loop-k-preserved : goal.loop-k-preserved
loop-k-preserved c =
    let h = c.args.hold.now in
    let r = c.args.ring.now in
    let slots = c.side_by_side-slots.result.now in
    let k = c.loop-k.k in
    let bytes = bytes_in_hold h in
    let before = map (slot_at r) (slots_from r.ring.size r.ring.accepted_head k) in
    let more : map (slot_at r) (slots_from r.ring.size r.ring.accepted_head (k + length slots)) ≡ before ++ slots =
    slots_more r k slots c.side_by_side-slots.ensures.slots (λ (s : SlotState). s) ∙ ap (λ (ss : List SlotState). before ++ ss) (map-same slots) in
    let inv = c.loop-k.invariant in
    let done = c.in_ok-begun.ensures in
    record {
      within = omega (arith, c.side_by_side-slots.ensures.few, c.loop-k-test.true);
      frames = rw more (done.frames
          ∙ (ap (λ (fs : List Frame). gathered bytes fs c.loop-k.begun slots) inv.frames
          ∙ (ap (λ (b : Bool). gathered bytes (gathered bytes [] false before) b slots) inv.begun ∙ sym (gathered-append bytes [] false before slots))));
      begun = rw more (done.begun ∙ (ap (λ (b : Bool). goes_on_behind b slots) inv.begun ∙ sym (goes_on-append false before slots)));
      some = done.some;
    }

pub returns : goal.returns
returns c =
    let r = c.args.ring.now in
    let bytes = bytes_in_hold c.args.hold.now in
    let inv = c.loop-k.invariant in
    let end : c.loop-k.k ≡ c.pushed-first.result.1 = omega (arith, c.loop-k-test.false, inv.within) in
    let all : map (slot_at r) (slots_from r.ring.size r.ring.accepted_head c.loop-k.k) ≡ slots_pushed r = rw (end, c.pushed-first.ensures.count) refl in
    inv.frames ∙ (ap (gathered bytes [] false) all ∙ gathered-joined bytes [] None (slots_pushed r) c.requires.ends)
