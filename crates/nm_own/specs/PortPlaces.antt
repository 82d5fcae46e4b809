-- Where a port stands in the order in which the ports were opened.
use Rattle.std.specs.Prelude.{ℕ, ◌==◌}
use Rattle.std.specs.List.{position_or_len}
use Rattle.nm_types.specs.OwnPorts.{OwnPort, OwnState}

-- the place of the first port of an id; behind all ports, if there is none
abbrev pub place_with_id : OwnState → ℕ → ℕ
place_with_id s id = position_or_len (λ (p : OwnPort). p.id.0 == id) s.ports
