use Rattle.std.proofs.Common.{ℕ, List, ◌-◌, ◌≡◌, [], ◌∷◌, sym, ap, ◌∙◌, arith}
use Rattle.vale_script.specs.declared.script.Act.TheVariants.{Open}
use Rattle.vale_gen.specs.Load.{opens}
use Rattle.vale_gen.specs.Sheets.{Sheet, with_deeds}
use Rattle.vale_gen.proofs.Adding.{users_more, users_next, with_none}
use Rattle.vale_gen.proofs.generator.open.Goals as goal

pub loop-user-init : goal.loop-user-init
loop-user-init c = sym (with_none c.args.sheet.now)

pub loop-user-preserved : goal.loop-user-preserved
loop-user-preserved c =
    let user = c.loop-user.user in
    c.in_ok-add.ensures
    ∙ ap (λ (name : List ℕ). with_deeds c.loop-user.sheet (record { user = user; act = Open name 256 256 0 } ∷ [])) c.in_ok-name.ensures
    ∙ ap (λ (s : Sheet). with_deeds s (opens c.loop-user.user ∷ [])) c.loop-user.invariant
    ∙ users_more opens c.args.sheet.now c.loop-user.user c.loop-user.auto.user

pub add-requires : goal.add-requires
add-requires c = let next = users_next opens c.args.sheet.now _ _ c.loop-user.invariant in omega (arith, next)

pub returns : goal.returns
returns c = let last : c.loop-user.user - 1 ≡ 4 = omega arith in rw last at c.loop-user.invariant
