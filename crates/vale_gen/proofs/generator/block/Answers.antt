use Rattle.std.proofs.Common.{ℕ, ◌-◌, ◌≡◌, flat_map, ap, ◌∙◌, arith}
use Rattle.std.specs.List.{range_with_len}
use Rattle.vale_gen.specs.Load.{user_deeds}
use Rattle.vale_gen.specs.Sheets.{Sheet, with_deeds}
use Rattle.vale_gen.proofs.Adding.{flat_users_more, block_length}
use Rattle.vale_gen.proofs.generator.block.Goals as goal

pub add_user-requires-clause-room : goal.add_user-requires-clause-room
add_user-requires-clause-room c =
    let next = ap (λ (s : Sheet). s.next) c.loop-user.invariant in
    let first = ap (λ (s : Sheet). s.next) c.in_ok-sheet.ensures in
    let few = block_length c.args.n (c.loop-user.user - 1) in
    omega (arith, next, first, few)

pub loop-user-preserved : goal.loop-user-preserved
loop-user-preserved c =
    c.in_ok-add_user.ensures
    ∙ ap (λ (s : Sheet). with_deeds s (user_deeds c.args.n c.loop-user.user 2000)) c.loop-user.invariant
    ∙ flat_users_more (λ (user : ℕ). user_deeds c.args.n user 2000) c.in_ok-sheet.sheet c.loop-user.user c.loop-user.auto.user

pub returns : goal.returns
returns c =
    let last : c.loop-user.user - 1 ≡ 4 = omega arith in
    c.into_lines.ensures
    ∙ ap (λ (s : Sheet). s.lines) (c.loop-user.invariant
    ∙ ap (λ (k : ℕ). with_deeds c.in_ok-sheet.sheet (flat_map (λ (user : ℕ). user_deeds c.args.n user 2000) (range_with_len 1 k))) last
    ∙ ap (λ (s : Sheet). with_deeds s (flat_map (λ (user : ℕ). user_deeds c.args.n user 2000) (range_with_len 1 4))) c.in_ok-sheet.ensures)
