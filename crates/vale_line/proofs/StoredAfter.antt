-- What a line keeps in memory after a step.
use Rattle.std.proofs.Common.{◌≡◌, ℕ, [], ap, sym, ◌∙◌, subst, arith}
use Rattle.std.specs.Vec.{vec_capacity}
use Rattle.vale_line.specs.declared.line.Line.TheInside.{Inside}
use Rattle.vale_line.specs.Lines.{LineState, IsLine, leases_of}
use Rattle.vale_line.specs.Rings.{IsRing}
use Rattle.vale_line.specs.Stored.{state_of, IsStored}

-- its ring and its ring of leases agree again, and the rest is as it was
pub stored-after : (was now : Inside) (line : LineState) → IsStored was → IsLine line → IsRing now.ring → state_of now ≡ line → line.size ≡ (state_of was).size → now.size ≡ was.size
    → now.leases ≡ record { size = (state_of was).size; leases = leases_of line.lots } → now.room.items ≡ [] → vec_capacity now.room ≡ vec_capacity was.room → IsStored now
stored-after was now line is line_is ring after same size leases none capacity =
    let now_size : (state_of now).size ≡ (state_of was).size = ap (λ (l : LineState). l.size) after ∙ same in
    let room = is.room in
    record {
      size = size ∙ (is.size ∙ sym now_size);
      line = subst IsLine (sym after) line_is;
      ring = ring;
      leases =
          leases
          ∙ (ap (λ (n : ℕ). record { size = n; leases = leases_of line.lots }) (sym now_size)
          ∙ ap (λ (l : LineState). record { size = (state_of now).size; leases = leases_of l.lots }) (sym after));
      none = none;
      room = omega (arith, room, now_size, capacity);
    }
