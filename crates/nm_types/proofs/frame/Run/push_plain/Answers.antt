use Rattle.std.proofs.Common.{ℕ, ◌≡◌, ◌++◌, ◌∷◌, ◌+◌, ◌∙◌, [], List, length, ap, arith}
use Rattle.nm_types.proofs.Places.{pushed_plain}
use Rattle.nm_types.proofs.frame.Run.push_plain.Goals as goal
use Rattle.nm_types.proofs.frame.Run.push_plain.Goals.{After-push_reserved}

-- where the frame ends
end_is : (c : After-push_reserved) → c.push_reserved.new.self.items ≡ c.self.inside.ends.items ++ (length c.self.inside.bytes.items + length c.args.bytes.now) ∷ []
end_is c =
    let bytes = c.self.inside.bytes in
    let end : c.in_ok-end.end ≡ length bytes.items + length c.args.bytes.now = omega (arith, c.in_ok-end.ensures, c.len.ensures, bytes.ok.0) in
    c.push_reserved.ensures.items ∙ (ap (λ (xs : List ℕ). xs ++ c.in_ok-end.end ∷ []) c.reserve.ensures.items ∙ ap (λ (n : ℕ). c.self.inside.ends.items ++ n ∷ []) end)

pub invariant_of-self-2 : goal.invariant_of-self-2
invariant_of-self-2 c =
    let p = pushed_plain c.self.inside.bytes.items c.args.bytes.now c.self.inside.ends.items c.self.inside.marks.items c.self.invariant in
    rw (c.in_ok-extend_from_slice.ensures.items, end_is c) p.is

pub returns-clause-ok : goal.returns-clause-ok
returns-clause-ok c =
    let p = pushed_plain c.self.inside.bytes.items c.args.bytes.now c.self.inside.ends.items c.self.inside.marks.items c.self.invariant in
    rw (← c.self.view_is, c.in_ok-extend_from_slice.ensures.items, end_is c) p.frames
