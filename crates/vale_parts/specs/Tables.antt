-- A switch's learning table finds each address where the pairs that were learned say.
use Rattle.std.specs.Prelude.{ℕ, ◌≡◌, if◌then◌else◌, List, None}
use Rattle.vale_learn.specs.AddressTable.{Entries, forgotten}
use Rattle.vale_learn.specs.AddressTable.{port_of_address as table_port}
use Rattle.vale_batch.specs.Looking.{learned_of_batch}
use Rattle.vale_entry.specs.declared.entry.Ask.{Ask}
use Rattle.vale_entry.specs.declared.entry.Ask.TheVariants.{Send, Shut}
use Rattle.vale_entry.specs.World.{World, Port, Pair, open_port}
use Rattle.vale_entry.specs.Opening.{is_on_switch}
use Rattle.vale_entry.specs.Learning.{port_of_address}
use Rattle.vale_entry.specs.Legal.{is_met}
use Rattle.vale_parts.specs.Ids.{id_of}

abbrev pub FindsPairs : List Port → List Pair → List ℕ → Entries → Type 0
FindsPairs ports pairs switch entries = (address : List ℕ) → id_of (table_port entries address) ≡ port_of_address ports pairs switch address

abbrev pub Finds : World → List ℕ → Entries → Type 0
Finds w switch entries = FindsPairs w.ports w.pairs switch entries

abbrev pub FindsNothing : Entries → Type 0
FindsNothing entries = (address : List ℕ) → table_port entries address ≡ None

-- what an ask that makes an entry makes of the table of a switch: a Send by a port of the switch teaches
-- it, and a Shut of such a port empties what holds it
abbrev pub table_after : World → List ℕ → Ask → Entries → Entries
table_after w switch (Send from frames) entries = if is_met (is_on_switch switch) (open_port w.ports from.0) then learned_of_batch from entries frames else entries
table_after w switch (Shut port) entries = if is_met (is_on_switch switch) (open_port w.ports port.0) then forgotten entries port else entries
table_after w switch _ entries = entries
