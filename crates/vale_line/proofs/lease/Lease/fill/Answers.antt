use Rattle.std.proofs.Common.{◌≡◌, ◌+◌, ◌∙◌, length, drop, ap, sym, arith}
use Rattle.std.proofs.lemmas.List.{length-drop, length-map, length-take-le}
use Rattle.nm_frag.specs.Parts.{slots_of_length}
use Rattle.nm_frag.proofs.PartLemmas.{slots-some}
use Rattle.vale_line.specs.declared.got.Got.{Got}
use Rattle.vale_line.specs.Gots.{buffer_of}
use Rattle.vale_line.specs.Leased.{first_size, next_of, sizes_in}
use Rattle.vale_line.proofs.FilledFrames.{HasFrame, has-frame, next-fits, seen-with, still-stored}
use Rattle.vale_line.proofs.lease.Lease.fill.Goals as goal

pub fill_parts-requires-clause-room : goal.fill_parts-requires-clause-room
fill_parts-requires-clause-room c =
    let inside = c.self.inside in
    let n = slots_of_length (length c.args.bytes.now) in
    let is : n ≡ first_size (sizes_in (drop inside.filled inside.gots.items)) = c.requires.next ∙ ap next_of (sym c.self.view_is) in
    (next-fits inside.gots.items inside.filled n is (slots-some (length c.args.bytes.now)) c.self.invariant.within c.self.invariant.room).room

-- what the call did to the lease
step : (c : goal.After-self-2-1) → HasFrame c.self.inside c.fill_parts.new.gots.items (c.from-size.result + 1) c.args.bytes.now
step c =
    let inside = c.self.inside in
    let bytes = c.args.bytes.now in
    let n = slots_of_length (length bytes) in
    let is : n ≡ first_size (sizes_in (drop inside.filled inside.gots.items)) = c.requires.next ∙ ap next_of (sym c.self.view_is) in
    let next = next-fits inside.gots.items inside.filled n is (slots-some (length bytes)) c.self.invariant.within c.self.invariant.room in
    let size : c.from-size.result + 1 ≡ n = (let told = next.size c.index.result.now in let same = c.from-size.ensures in let value = ap (λ (g : Got). g.rest) c.index.ensures in omega (arith, told, same, value)) in
    has-frame inside c.fill_parts.new.gots.items (c.from-size.result + 1) bytes c.self.invariant size is c.fill_parts.ensures

pub invariant_of-self : goal.invariant_of-self
invariant_of-self c = still-stored c.self.inside c.fill_parts.new.gots (c.from-size.result + 1) c.args.bytes.now (step c)

pub returns-clause-lease : goal.returns-clause-lease
returns-clause-lease c = rw (← c.self.view_is) (seen-with c.self.inside c.fill_parts.new.gots.items (c.from-size.result + 1) c.args.bytes.now (step c))

pub returns-clause-contents : goal.returns-clause-contents
returns-clause-contents c = rw (← c.self.view_is) (step c).contents

pub returns-clause-count : goal.returns-clause-count
returns-clause-count c =
    let inside = c.self.inside in
    let gots = inside.gots.items in
    let new = c.fill_parts.new.gots.items in
    let s = step c in
    let at = inside.filled + (c.from-size.result + 1) in
    let room = s.within in
    let same = s.size in
    let within = c.self.invariant.within in
    let front = length-take-le at new (omega (arith, room)) in
    let behind = length-map (drop at new) buffer_of in
    let left = length-drop at new in
    let front_before = length-take-le inside.filled gots within in
    let behind_before = length-map (drop inside.filled gots) buffer_of in
    let left_before = length-drop inside.filled gots in
    rw (← c.self.view_is) (omega (arith, front, behind, left, front_before, behind_before, left_before, room, same, within))
