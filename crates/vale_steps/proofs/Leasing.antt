-- What a grant gives of what is wanted.
use Rattle.std.proofs.Common.{ℕ, zero, suc, Bool, true, false, cond, ◌≡◌, ◌≤◌, ◌<◌, ◌-◌, nat_le, List, [], ◌∷◌, length, Option, Some, None, IfSome, slice_get, refl, sym, subst, arith}
use Rattle.nm_types.specs.declared.id.LeaseId.{LeaseId}
use Rattle.vale_line.specs.Fitting.{fitting_sizes}
use Rattle.vale_line.specs.Leased.{Leased, count_of}
use Rattle.vale_line.specs.Lines.{leased, granted_sizes, space_of}
use Rattle.vale_port.specs.Ports.{PortState}
use Rattle.vale_port.specs.Lists.{OfState}
use Rattle.vale_steps.specs.Granting.{given_by}

fitting-few_by : (b : Bool) (size : ℕ) (left sizes : List ℕ) → length left ≤ length sizes → length (cond b (size ∷ left) []) ≤ length (size ∷ sizes)
fitting-few_by true size left sizes few = omega (arith, few)
fitting-few_by false size left sizes few = omega arith

fitting-few : (room : ℕ) (sizes : List ℕ) → length (fitting_sizes room sizes) ≤ length sizes
fitting-few room [] = omega arith
fitting-few room (size ∷ sizes) = fitting-few_by (nat_le size room) size (fitting_sizes (room - size) sizes) sizes (fitting-few (room - size) sizes)

there : (ps : List PortState) (place : ℕ) → place < length ps → (p : PortState) × (slice_get ps place ≡ Some p)
there [] place within = absurd (omega (arith, within))
there (p ∷ ps) zero within = (p, refl)
there (p ∷ ps) (suc place) within = there ps place (omega (arith, within))

pub given-few : (r : Option Leased) (id : LeaseId) (want : List ℕ) (ps : List PortState) (place : ℕ) → place < length ps
    → IfSome r (λ (lease : Leased). OfState (λ (p : PortState). lease ≡ leased id p.id (granted_sizes want p.line) p.line) ps place)
    → given_by r ≤ length want
given-few None id want ps place within is = omega arith
given-few (Some lease) id want ps place within is =
    let at = there ps place within in
    let same = is at.0 at.1 in
    let few = fitting-few (space_of (at.0).line) want in
    subst (λ (l : Leased). count_of l ≤ length want) (sym same) (omega (arith, few))
