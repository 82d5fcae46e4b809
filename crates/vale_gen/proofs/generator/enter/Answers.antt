use Rattle.std.proofs.Common.{◌-◌, ◌≡◌, [], ◌∷◌, sym, ap, ◌∙◌, arith}
use Rattle.vale_gen.specs.Load.{enters}
use Rattle.vale_gen.specs.Sheets.{Sheet, with_deeds}
use Rattle.vale_gen.proofs.Adding.{users_more, users_next, with_none}
use Rattle.vale_gen.proofs.generator.enter.Goals as goal

pub loop-user-init : goal.loop-user-init
loop-user-init c = sym (with_none c.args.sheet.now)

pub loop-user-preserved : goal.loop-user-preserved
loop-user-preserved c =
    c.in_ok-add.ensures ∙ ap (λ (s : Sheet). with_deeds s (enters c.loop-user.user ∷ [])) c.loop-user.invariant
    ∙ users_more enters c.args.sheet.now c.loop-user.user c.loop-user.auto.user

pub add-requires : goal.add-requires
add-requires c = let next = users_next enters c.args.sheet.now _ _ c.loop-user.invariant in omega (arith, next)

pub returns : goal.returns
returns c = let last : c.loop-user.user - 1 ≡ 4 = omega arith in rw last at c.loop-user.invariant
