-- The names that a table of names tells are those of the ports that are there, in any order.
use Rattle.std.specs.Prelude.{ℕ, ◌≡◌, List, map, IsPermutation}
use Rattle.vale_names.specs.declared.port.NamedPort.{NamedPort}
use Rattle.vale_names.specs.Ports.{fresh_port, Joins, shut_in, ports_without}
use Rattle.vale_entry.specs.declared.entry.Ask.{Ask}
use Rattle.vale_entry.specs.declared.entry.Ask.TheVariants.{Open, Shut, Finish}
use Rattle.vale_entry.specs.declared.entry.Reply.{Reply}
use Rattle.vale_entry.specs.declared.entry.Reply.TheVariants.{Opened}
use Rattle.vale_entry.specs.World.{World, Port}
use Rattle.vale_parts.specs.Ids.{port_id}

abbrev pub named_port : Port → NamedPort
named_port port = record { name = port.name; id = port_id port.id; shutting = port.shutting }

abbrev pub NamesAre : World → List NamedPort → Type 0
NamesAre w names = IsPermutation (map named_port w.ports) names

-- what the entry of this number makes of the names
abbrev pub AreNamesAfter : ℕ → Ask → Reply → List NamedPort → List NamedPort → Type 0
AreNamesAfter number (Open session name tx rx extra) Opened names next = Joins names (fresh_port name (port_id number)) next
AreNamesAfter number (Shut port) reply names next = next ≡ shut_in port.0 names
AreNamesAfter number (Finish port bufs chain) reply names next = next ≡ ports_without port.0 names
AreNamesAfter number _ _ names next = next ≡ names
