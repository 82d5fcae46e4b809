use Rattle.std.proofs.Common.{ℕ, ◌≡◌, ◌++◌, ◌∷◌, ◌+◌, ◌∙◌, [], true, List, length, ap, arith}
use Rattle.std.proofs.lemmas.Result.{err_from_is_err_and}
use Rattle.nm_types.proofs.Places.{Pushed, pushed_marked, frames_marked}
use Rattle.nm_types.proofs.frame.Run.push_marked.Goals as goal
use Rattle.nm_types.proofs.frame.Run.push_marked.Goals.{After-push_reserved-2}

pub returns-in_err-reach_marks-clause-err : goal.returns-in_err-reach_marks-clause-err
returns-in_err-reach_marks-clause-err c =
    let p = err_from_is_err_and c.from_residual-in_err-reach_marks.result c.from_residual-in_err-reach_marks.ensures.1 in
    let inside = c.self.inside in
    rw (p.1, ← c.self.view_is, c.reserve.ensures.items)
    (frames_marked inside.bytes.items inside.ends.items inside.marks.items c.reach_marks.new.marks.items 0 c.reach_marks.ensures.padded)

pub returns-in_err-extend_from_slice-clause-err : goal.returns-in_err-extend_from_slice-clause-err
returns-in_err-extend_from_slice-clause-err c =
    let p = err_from_is_err_and c.from_residual-in_err-extend_from_slice.result c.from_residual-in_err-extend_from_slice.ensures.1 in
    let inside = c.self.inside in
    rw (p.1, ← c.self.view_is, c.reserve.ensures.items, c.in_err-extend_from_slice.ensures.items)
    (frames_marked inside.bytes.items inside.ends.items inside.marks.items c.reach_marks.new.marks.items 0 c.reach_marks.ensures.padded)

-- where the frame ends
end_is : (c : After-push_reserved-2) → c.push_reserved.new.self.items ≡ c.self.inside.ends.items ++ (length c.self.inside.bytes.items + length c.args.bytes.now) ∷ []
end_is c =
    let bytes = c.self.inside.bytes in
    let end : c.in_ok-end.end ≡ length bytes.items + length c.args.bytes.now = omega (arith, c.in_ok-end.ensures, c.len.ensures, bytes.ok.0) in
    c.push_reserved.ensures.items ∙ (ap (λ (xs : List ℕ). xs ++ c.in_ok-end.end ∷ []) c.reserve.ensures.items ∙ ap (λ (n : ℕ). c.self.inside.ends.items ++ n ∷ []) end)

pushed : (c : After-push_reserved-2) → Pushed c.self.inside.bytes.items c.args.bytes.now c.self.inside.ends.items c.self.inside.marks.items (c.reach_marks.new.marks.items ++ true ∷ []) true
pushed c =
    let count : length c.reach_marks.new.marks.items ≡ length c.self.inside.ends.items =
    c.in_ok-reach_marks.ensures.count ∙ (c.len-2.ensures ∙ (c.reserve.new.self.ok.0 ∙ ap (λ (xs : List ℕ). length xs) c.reserve.ensures.items)) in
    pushed_marked c.self.inside.bytes.items c.args.bytes.now c.self.inside.ends.items c.self.inside.marks.items c.reach_marks.new.marks.items c.self.invariant c.reach_marks.ensures.padded count

pub invariant_of-self-2 : goal.invariant_of-self-2
invariant_of-self-2 c = rw (c.in_ok-extend_from_slice.ensures.items, end_is c, c.push_reserved-2.ensures.items) (pushed c).is

pub returns-clause-ok : goal.returns-clause-ok
returns-clause-ok c = rw (← c.self.view_is, c.in_ok-extend_from_slice.ensures.items, end_is c, c.push_reserved-2.ensures.items) (pushed c).frames
