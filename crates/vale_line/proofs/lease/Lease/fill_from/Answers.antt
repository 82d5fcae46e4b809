use Rattle.std.proofs.Common.{◌≡◌, ◌+◌, ◌++◌, ◌∙◌, List, length, take, drop, ap, sym, arith}
use Rattle.std.proofs.lemmas.List.{length-drop, length-map, length-take-le}
use Rattle.nm_frag.specs.Parts.{slots_of_length, parts_of, HeldPart}
use Rattle.nm_frag.proofs.PartLemmas.{slots-some, length-cut}
use Rattle.vale_line.specs.declared.got.Got.{Got}
use Rattle.vale_line.specs.Gots.{buffer_of, held_part, joined_parts, copied_parts}
use Rattle.vale_line.specs.Leased.{first_size, next_of, sizes_in}
use Rattle.vale_line.proofs.CutLemmas.{copied-told}
use Rattle.vale_line.proofs.FilledFrames.{HasFrame, has-frame, next-fits, seen-with, still-stored}
use Rattle.vale_line.proofs.lease.Lease.fill_from.Goals as goal

pub copy_parts-requires : goal.copy_parts-requires
copy_parts-requires c =
    let inside = c.self.inside in
    let bytes = joined_parts c.args.gots.now in
    let n = length c.args.gots.now in
    let told : n ≡ slots_of_length (length bytes) = sym (length-map c.args.gots.now held_part) ∙ (ap length c.requires.frame ∙ length-cut bytes) in
    let some = slots-some (length bytes) in
    let is : n ≡ first_size (sizes_in (drop inside.filled inside.gots.items)) = c.requires.next ∙ ap next_of (sym c.self.view_is) in
    (next-fits inside.gots.items inside.filled n is (omega (arith, told, some)) c.self.invariant.within c.self.invariant.room).room

-- what the call did to the lease
step : (c : goal.After-self-2-1) → HasFrame c.self.inside c.copy_parts.new.gots.items (length c.args.gots.now) (joined_parts c.args.gots.now)
step c =
    let inside = c.self.inside in
    let gots = inside.gots.items in
    let bytes = joined_parts c.args.gots.now in
    let n = length c.args.gots.now in
    let told : n ≡ slots_of_length (length bytes) = sym (length-map c.args.gots.now held_part) ∙ (ap length c.requires.frame ∙ length-cut bytes) in
    let is : slots_of_length (length bytes) ≡ first_size (sizes_in (drop inside.filled gots)) = sym told ∙ (c.requires.next ∙ ap next_of (sym c.self.view_is)) in
    let copied = ap (λ (hs : List HeldPart). copied_parts hs (drop inside.filled gots)) c.requires.frame ∙ copied-told (parts_of bytes) (drop inside.filled gots) in
    has-frame inside c.copy_parts.new.gots.items n bytes c.self.invariant told is (c.copy_parts.ensures ∙ ap (λ (gs : List Got). take inside.filled gots ++ gs) copied)

pub invariant_of-self : goal.invariant_of-self
invariant_of-self c = still-stored c.self.inside c.copy_parts.new.gots (length c.args.gots.now) (joined_parts c.args.gots.now) (step c)

pub returns-clause-lease : goal.returns-clause-lease
returns-clause-lease c = rw (← c.self.view_is) (seen-with c.self.inside c.copy_parts.new.gots.items (length c.args.gots.now) (joined_parts c.args.gots.now) (step c))

pub returns-clause-contents : goal.returns-clause-contents
returns-clause-contents c = rw (← c.self.view_is) (step c).contents

pub returns-clause-count : goal.returns-clause-count
returns-clause-count c =
    let inside = c.self.inside in
    let gots = inside.gots.items in
    let new = c.copy_parts.new.gots.items in
    let s = step c in
    let at = inside.filled + length c.args.gots.now in
    let room = s.within in
    let same = s.size in
    let within = c.self.invariant.within in
    let front = length-take-le at new (omega (arith, room)) in
    let behind = length-map (drop at new) buffer_of in
    let left = length-drop at new in
    let front_before = length-take-le inside.filled gots within in
    let behind_before = length-map (drop inside.filled gots) buffer_of in
    let left_before = length-drop inside.filled gots in
    rw (← c.self.view_is) (omega (arith, front, behind, left, front_before, behind_before, left_before, room, same, within))
