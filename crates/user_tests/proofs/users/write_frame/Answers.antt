use Rattle.std.proofs.Common.{◌≡◌, ◌∙◌, ap, Option, Some}
use Rattle.std.specs.Prelude.{OnSome}
use Rattle.nm_user.specs.Sessions.{SessionState}
use Rattle.user_tests.proofs.users.write_frame.Goals as goal

-- what is said where there is a value
on-some : {X P : Type 0} (o : Option X) (x : X) → o ≡ Some x → OnSome o P → P
on-some o x is said = rw is at said

pub returns : goal.returns
returns g c =
    ap (λ (s : SessionState). s.fabric) c.put_positions.ensures
    ∙ ap (λ (s : SessionState). s.fabric) (on-some c.slot_mut.result c.in-Some.slot c.in-Some.is (c.slot_mut.follows.holds (record (c.in-Some.slot.now) { len = 14 })))
