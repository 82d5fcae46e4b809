use Rattle.std.proofs.Common.{ℕ, zero, suc, ◌≡◌, replicate, None, refl, ◌∙◌, ap, rules}
use Rattle.nm_hold.specs.Holds.{HoldState, empty_hold, cell_at}
use Rattle.bench.proofs.look.time_look_ups.Goals as goal

none_in : (n idx : ℕ) → cell_at (replicate n None) idx ≡ None
none_in zero idx = refl
none_in (suc n) zero = refl
none_in (suc n) (suc idx) = none_in n idx

pub close-requires : goal.close-requires
close-requires g c idx =
    let same : c.open_ports.new.hold.cells ≡ c.in-Ok.hold.cells = search rules in
    let made : c.in-Ok.hold ≡ empty_hold 64 = search rules in
    ap (λ cells. cell_at cells idx) (same ∙ ap (λ (h : HoldState). h.cells) made) ∙ none_in 66 idx
