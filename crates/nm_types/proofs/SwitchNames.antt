-- A name that begins with `vale` is of a port of a switch.
use Rattle.std.proofs.Common.{ℕ, Bool, true, false, cond, List, ◌≡◌, length, drop, nat_eq, nat_lt, codes, is_some, Option, Some, None, refl}
use Rattle.std.specs.List.{starts_with}
use Rattle.nm_types.specs.declared.name.Kind.{Kind}
use Rattle.nm_types.specs.declared.name.Kind.TheVariants.{Vale}
use Rattle.nm_types.specs.Names.{kind_of, is_switch_port, is_name, IsName}

by_port : (long port : Bool) → is_some (cond long None (cond port (Some Vale) None)) ≡ true
    → cond long None (cond port (Some Vale) None) ≡ Some Vale
by_port true port is = absurd cc
by_port false true is = refl
by_port false false is = absurd cc

pub kind_of-vale : (text : List ℕ) → IsName text → starts_with nat_eq text (codes "vale") ≡ true → kind_of text ≡ Some Vale
unfolding is_name
kind_of-vale text name begins =
    let is : is_some (kind_of text) ≡ true = name in
    by_begin (starts_with nat_eq text (codes "vale")) _ begins is
  where
    by_begin : (b : Bool) (other : Option Kind) → b ≡ true
        → is_some (cond (nat_lt 16 (length text)) None (cond b (cond (is_switch_port (drop 4 text)) (Some Vale) None) other)) ≡ true
        → cond (nat_lt 16 (length text)) None (cond b (cond (is_switch_port (drop 4 text)) (Some Vale) None) other) ≡ Some Vale
    by_begin true other e is = by_port (nat_lt 16 (length text)) (is_switch_port (drop 4 text)) is
    by_begin false other e is = absurd cc

pub ruleset switch_names = (kind_of-vale)
