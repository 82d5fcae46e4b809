use Rattle.std.proofs.Common.{ℕ, ◌∙◌, Option, ap, sym, arith}
use Rattle.std.specs.Prelude.{unwrap_or}
use Rattle.std.proofs.lemmas.Option.{unwrap_or-slice_get}
use Rattle.nm_hold.specs.Holds.{AreNumbers}
use Rattle.nm_port.specs.Exchanges.{pushed_count_of, user_position, KeepFirst}
use Rattle.nm_port.proofs.Unmoved.{kept_exchanged}
use Rattle.nm_port.proofs.kept.is_kept.Goals as goal

pub returns-in-Some : goal.returns-in-Some
returns-in-Some c e =
    let h = c.args.hold.now in
    let r = c.args.ring.now in
    let numbers = c.in-Some.numbers.now in
    let numbered : AreNumbers h r.side c.args.port numbers = rw (c.in-Some.is, c.side.ensures) at c.numbers.ensures.numbers in
    let kept : KeepFirst r numbers (pushed_count_of r) = (λ k below. sym (unwrap_or-slice_get numbers (user_position r k) 0) ∙ ap (λ (o : Option ℕ). unwrap_or o 0) (c.ring_matches.ensures.keeps e k below)) in
    kept_exchanged h c.args.port r c.requires.ring c.requires.can numbers numbered (pushed_count_of r) (omega arith) kept
