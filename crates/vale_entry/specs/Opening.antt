-- Opening a port, and why it is refused: for its sizes or its name, or else for want of buffers.
use Rattle.std.specs.Prelude.{ℕ, Bool, false, ◌+◌, nat_lt, if◌then◌else◌, List, [], ◌∷◌, ◌++◌, map, Option, Some, None}
pub use Rattle.nm_types.specs.Openings.{is_ring_size, are_sizes}
use Rattle.nm_types.specs.Openings.{is_on_switch as is_name_on, open_refusal as names_refusal}
use Rattle.nm_types.specs.declared.fault.OpenFault.{OpenFault}
use Rattle.nm_types.specs.declared.fault.OpenFault.TheVariants.{NoBuffers}
use Rattle.vale_entry.specs.World.{Port, World, free_count}

-- the names of the ports that are there, open or shutting
abbrev pub name_of_port : Port → List ℕ
name_of_port port = port.name

abbrev pub names_of : List Port → List (List ℕ)
names_of ports = map name_of_port ports

-- a port of this switch
abbrev pub is_on_switch : List ℕ → Port → Bool
is_on_switch switch port = is_name_on switch port.name

abbrev pub refusal_or_room : Option OpenFault → ℕ → ℕ → Option OpenFault
refusal_or_room (Some fault) want have = Some fault
refusal_or_room None want have = if nat_lt have want then Some (NoBuffers want have) else None

abbrev pub open_refusal : World → List ℕ → ℕ → ℕ → ℕ → Option OpenFault
open_refusal w name tx rx extra =
    refusal_or_room (names_refusal (names_of w.ports) name tx rx extra) (tx + rx + extra)
    (free_count w)

abbrev pub opened_port : ℕ → ℕ → List ℕ → ℕ → ℕ → ℕ → Port
opened_port id session name tx rx extra =
    record {
      id = id;
      session = session;
      name = name;
      tx = tx;
      rx = rx;
      extra = extra;
      shutting = false;
      out = 0;
      line = [];
    }

abbrev pub after_open : World → ℕ → List ℕ → ℕ → ℕ → ℕ → World
after_open w session name tx rx extra =
    record w { ports = w.ports ++ opened_port (w.entry_count + 1) session name tx rx extra ∷ [] }
