use Rattle.std.proofs.Common.{◌≡◌, ◌+◌, ◌-◌, length, arith}
use Rattle.nm_types.proofs.Places.{frames_long, frames_extended, run_extended}
use Rattle.nm_types.proofs.frame.Run.extend_last.Goals as goal
use Rattle.nm_types.proofs.frame.Run.extend_last.Goals.{After-self-1}

-- where the last frame now ends
end_is : (c : After-self-1) → c.in_ok-end.end ≡ length c.self.inside.bytes.items + length c.args.bytes.now
end_is c = omega (arith, c.in_ok-end.ensures, c.len.ensures, c.self.inside.bytes.ok.0)

-- and where that stands
last_is : (c : After-self-1) → (c.len-last.result - 1) + 1 ≡ length c.self.inside.ends.items
last_is c =
    let ends = c.self.inside.ends in
    let count = frames_long c.self.inside.bytes.items ends.items c.self.inside.marks.items 0 in
    omega (arith, rw (← c.self.view_is) at c.requires, count, c.len-last.ensures, ends.ok.0)

pub invariant_of-self-2 : goal.invariant_of-self-2
invariant_of-self-2 c =
    let inside = c.self.inside in
    rw (c.in_ok-extend_from_slice.ensures.items, end_is c) (run_extended inside.bytes.items c.args.bytes.now inside.ends.items inside.marks.items (c.len-last.result - 1) c.self.invariant (last_is c))

pub returns-clause-ok : goal.returns-clause-ok
returns-clause-ok c =
    let inside = c.self.inside in
    rw (← c.self.view_is, c.in_ok-extend_from_slice.ensures.items, end_is c)
    (frames_extended inside.bytes.items c.args.bytes.now inside.ends.items inside.marks.items 0 (c.len-last.result - 1) c.self.invariant.cut (last_is c))
