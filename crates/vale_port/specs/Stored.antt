-- How a port is kept in memory.
use Rattle.std.specs.Prelude.{◌≡◌, ◌+◌, ◌≤◌, [], vec_capacity}
use Rattle.vale_line.specs.Lines.{out_of}
use Rattle.vale_port.specs.declared.port.Port.TheInside.{Inside}
use Rattle.vale_port.specs.Ports.{PortState}

abbrev pub state_of : Inside → PortState
state_of p = record { id = p.id.0; session = p.session.0; name = p.name; tx = p.tx; extra = p.extra; shutting = p.shutting; line = p.line }

-- the buffers that are out are counted, and there is memory for the numbers of all that the session
-- may hold for the port
pub record IsStored (p : Inside) : Type 0 where
  pub out_is : p.out ≡ out_of p.line
  pub none : p.numbers.items ≡ []
  pub room : p.tx + p.extra + p.line.size ≤ vec_capacity p.numbers
