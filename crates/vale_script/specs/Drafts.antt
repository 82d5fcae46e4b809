-- A draft as the rules speak of it.
use Rattle.std.specs.Prelude.{Option, option_map}
use Rattle.vale_script.specs.declared.draft.Draft.{Draft as Kept}
use Rattle.vale_script.specs.declared.draft.Block.{Block}
use Rattle.vale_script.specs.declared.draft.PortUse.{PortUse}
use Rattle.vale_script.specs.Rules.{Draft, Opened, Use}
use Rattle.vale_script.specs.Keys.{numbers_seen, ports_seen}
use Rattle.vale_script.specs.Tables.{seen}

abbrev pub block_of : Block → Opened
block_of block = record { at = block.at; lines = block.lines.items }

abbrev pub draft_of : Kept → Draft
draft_of kept = record {
  pool = kept.pool;
  spoken = kept.spoken;
  users = kept.users.items;
  numbers = numbers_seen kept.numbers;
  ports = ports_seen kept.ports;
  files = seen kept.files;
  played = kept.played.items;
  units = kept.units.items;
  block = option_map block_of kept.block;
}

abbrev pub shown_use : PortUse → Use
shown_use used = record { name = used.name; sends = used.sends }

abbrev pub use_of : Option PortUse → Option Use
use_of used = option_map shown_use used
