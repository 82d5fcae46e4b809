-- The ports of a history, in the order of their opening.
use Rattle.std.specs.Prelude.{ℕ, List, [], ◌∷◌, Option, Some, None}
use Rattle.vale_entry.specs.declared.entry.Ask.{Ask}
use Rattle.vale_entry.specs.declared.entry.Ask.TheVariants.{Open}
use Rattle.vale_entry.specs.declared.entry.Reply.{Reply}
use Rattle.vale_entry.specs.declared.entry.Reply.TheVariants.{Opened}
use Rattle.vale_entry.specs.declared.entry.Entry.{Entry}
use Rattle.vale_told.specs.declared.tally.Tally.{Tally}
use Rattle.vale_told.specs.declared.told.Told.{Told}
use Rattle.vale_told.specs.declared.opened.Port.{Port}
use Rattle.vale_told.specs.Tallies.{zero_tally, sum_of_tallies}
use Rattle.vale_told.specs.Told.{told_of}
use Rattle.vale_told.specs.Listed.{listed_from}

-- the port that an opening of this number opens
abbrev pub port_by : (ℕ → Told) → ℕ → Ask → Reply → Option Port
port_by told number (Open session name tx rx extra) Opened =
    Some (record {
      id = number;
      session = session.0;
      name = name;
      tx = tx;
      rx = rx;
      extra = extra;
      told = told number;
    })
port_by told number _ _ = None

abbrev pub port_opened : (ℕ → Told) → ℕ → Entry → Option Port
port_opened told number entry = port_by told number entry.ask entry.reply

abbrev pub ports_told : List Entry → List Port
ports_told history = listed_from (port_opened (told_of history)) 1 history

-- what is told of all of them
abbrev pub total_of : List Port → Tally
total_of [] = zero_tally
total_of (port ∷ ports) = sum_of_tallies port.told.tally (total_of ports)
