-- What the answers of names do not depend on, and what the invariant gives.
use Rattle.std.specs.Prelude.{ℕ, ◌≡◌, ◌≤◌, List, count_by, IsPermutation}
use Rattle.nm_types.specs.Openings.{open_refusal}
use Rattle.vale_names.specs.declared.port.NamedPort.{NamedPort}
use Rattle.vale_names.specs.Ports.{names_of, is_open_as, open_port_of}
use Rattle.vale_names.specs.PortNames.{IsNames}

-- an opening is answered alike whatever the order of the ports
abbrev pub OrderSaysNothing : Type 0
OrderSaysNothing = (ports others : List NamedPort) (name : List ℕ) (tx rx extra : ℕ)
    → IsPermutation ports others
    → open_refusal (names_of ports) name tx rx extra ≡ open_refusal (names_of others) name tx rx extra

-- a name finds the same port whatever their order, as long as no two open ports have it
abbrev pub OrderFindsTheSame : Type 0
OrderFindsTheSame = (ports others : List NamedPort) (name : List ℕ)
    → count_by (is_open_as name) ports ≤ 1 → IsPermutation ports others
    → open_port_of ports name ≡ open_port_of others name

-- of the ports that are there together, at most one is open under a name
abbrev pub OneIsOpen : Type 0
OneIsOpen = (ports : List NamedPort) (name : List ℕ) → IsNames ports → count_by (is_open_as name) ports ≤ 1
