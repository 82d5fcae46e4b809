-- What a map has of a port.
use Rattle.std.specs.Prelude.{ℕ, nat_eq, unwrap_or}
use Rattle.std.specs.HashMap.{get, HashMap}
use Rattle.vale_told.specs.declared.told.Told.{Told}
use Rattle.vale_told.specs.Told.{told_nothing}

module _ {S : Type 0} where
  abbrev pub told_in : HashMap ℕ Told S → ℕ → Told
  told_in by_port port = unwrap_or (get nat_eq by_port port) told_nothing
