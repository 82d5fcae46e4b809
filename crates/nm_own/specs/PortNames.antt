-- The ports of an own side, as they are kept, by their names.
use Rattle.std.specs.Prelude.{ℕ, List, find, Option}
use Rattle.std.specs.Str.{bytes_eq}
use Rattle.nm_port.specs.declared.port.UserPort.{UserPort}

-- the first port of a name
abbrev pub port_named : List UserPort → List ℕ → Option UserPort
port_named ports name = find (λ (p : UserPort). bytes_eq name p.name) ports
