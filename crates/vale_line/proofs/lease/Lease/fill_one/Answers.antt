use Rattle.std.proofs.Common.{◌≡◌, ◌∙◌, length, drop, ap, sym, arith}
use Rattle.nm_frag.specs.Parts.{slots_of_length}
use Rattle.nm_frag.proofs.PartLemmas.{slots-one}
use Rattle.vale_line.specs.Leased.{first_size, next_of, sizes_in}
use Rattle.vale_line.proofs.FilledFrames.{HasFrame, has-frame, next-fits, seen-with, still-stored}
use Rattle.vale_line.proofs.lease.Lease.fill_one.Goals as goal

pub fill_first-requires-clause-room : goal.fill_first-requires-clause-room
fill_first-requires-clause-room c =
    let inside = c.self.inside in
    let is : 1 ≡ first_size (sizes_in (drop inside.filled inside.gots.items)) = sym c.requires.next ∙ ap next_of (sym c.self.view_is) in
    let next = next-fits inside.gots.items inside.filled 1 is (omega arith) c.self.invariant.within c.self.invariant.room in
    let room = next.room in
    omega (arith, room)

-- what the call did to the lease
step : (c : goal.After-self-2-1) → HasFrame c.self.inside c.fill_first.new.gots.items 1 c.args.bytes.now
step c =
    let inside = c.self.inside in
    let bytes = c.args.bytes.now in
    let one : slots_of_length (length bytes) ≡ 1 = slots-one (length bytes) c.requires.frame in
    let is : slots_of_length (length bytes) ≡ first_size (sizes_in (drop inside.filled inside.gots.items)) = one ∙ (sym c.requires.next ∙ ap next_of (sym c.self.view_is)) in
    has-frame inside c.fill_first.new.gots.items 1 bytes c.self.invariant (sym one) is c.fill_first.ensures

pub invariant_of-self : goal.invariant_of-self
invariant_of-self c = still-stored c.self.inside c.fill_first.new.gots 1 c.args.bytes.now (step c)

pub returns-clause-lease : goal.returns-clause-lease
returns-clause-lease c = rw (← c.self.view_is) (seen-with c.self.inside c.fill_first.new.gots.items 1 c.args.bytes.now (step c))

pub returns-clause-contents : goal.returns-clause-contents
returns-clause-contents c = rw (← c.self.view_is) (step c).contents
