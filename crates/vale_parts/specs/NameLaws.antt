-- Laws of the names of the ports.
use Rattle.std.specs.Prelude.{ℕ, ◌≡◌, ◌<◌, ◌+◌, true, List, [], ◌∷◌, ◌++◌, length, option_map}
use Rattle.nm_types.specs.Limits.{most_ports}
use Rattle.nm_types.specs.Names.{is_pipe_name, peer_name}
use Rattle.nm_types.specs.Openings.{open_refusal as names_refusal}
use Rattle.vale_names.specs.declared.port.NamedPort.{NamedPort}
use Rattle.vale_names.specs.Ports.{names_of, open_port_of, fresh_port, Joins, ports_without}
use Rattle.vale_names.specs.PortNames.{IsNames}
use Rattle.vale_entry.specs.declared.entry.Entry.{Entry}
use Rattle.vale_entry.specs.World.{World, Port, free_count}
use Rattle.vale_entry.specs.Opening.{open_refusal, refusal_or_room}
use Rattle.vale_entry.specs.Monitors.{open_port_as}
use Rattle.vale_entry.specs.Pipe.{peer_of}
use Rattle.vale_entry.specs.Legal.{standing_of, world_of, Follows}
use Rattle.vale_parts.specs.Ids.{id_of, port_id}
use Rattle.vale_parts.specs.WorldNames.{NamesAre, AreNamesAfter}

abbrev pub number_of : Port → ℕ
number_of port = port.id

abbrev pub NamesFollow : Type 0
NamesFollow = (pool : ℕ) (history : List Entry) (entry : Entry) (names next : List NamedPort) → Follows (standing_of pool history) entry → NamesAre (world_of pool history) names
    → AreNamesAfter ((world_of pool history).entry_count + 1) entry.ask entry.reply names next → NamesAre (world_of pool (history ++ entry ∷ [])) next

-- an opening is refused for its name as the names say, and else for want of buffers
abbrev pub OpeningsAreAnswered : Type 0
OpeningsAreAnswered = (w : World) (names : List NamedPort) (name : List ℕ) (tx rx extra : ℕ) → NamesAre w names
    → open_refusal w name tx rx extra ≡ refusal_or_room (names_refusal (names_of names) name tx rx extra) (tx + rx + extra) (free_count w)

-- a name finds the open port that has it
abbrev pub NamesFindPorts : Type 0
NamesFindPorts = (w : World) (names : List NamedPort) (name : List ℕ) → NamesAre w names → IsNames names → id_of (open_port_of names name) ≡ option_map number_of (open_port_as w.ports name)

-- and the name of a pipe's other end finds the open port there
abbrev pub NamesFindPeers : Type 0
NamesFindPeers = (w : World) (names : List NamedPort) (port : Port) → NamesAre w names → IsNames names → is_pipe_name port.name ≡ true
    → id_of (open_port_of names (peer_name port.name)) ≡ option_map number_of (peer_of w.ports port)

-- an opening's name is taken out again as it came, where buffers or memory are wanting
abbrev pub OpeningsAreUndone : Type 0
OpeningsAreUndone = (pool : ℕ) (history : List Entry) (names next : List NamedPort) (name : List ℕ) → NamesAre (world_of pool history) names
    → Joins names (fresh_port name (port_id ((world_of pool history).entry_count + 1))) next → ports_without ((world_of pool history).entry_count + 1) next ≡ names

-- where one port more has a name, there were fewer ports than there may be
abbrev pub OpeningsHaveRoom : Type 0
OpeningsHaveRoom = (w : World) (names next : List NamedPort) (port : NamedPort) → NamesAre w names → Joins names port next → IsNames next → length w.ports < most_ports
