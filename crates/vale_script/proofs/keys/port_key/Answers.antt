use Rattle.std.proofs.Common.{◌≤◌, length, sym, subst, ℕ, List}
use Rattle.nm_types.proofs.NameBytes.{name_sizes}
use Rattle.vale_script.proofs.keys.port_key.Goals as goal

pub packed-requires-2 : goal.packed-requires-2
packed-requires-2 c =
    subst (λ (word : List ℕ). length word ≤ 16) (sym c.as_bytes-2.ensures.text) (name_sizes c.args.name.now c.as_bytes-2.ensures.name).1
