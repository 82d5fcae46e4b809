-- What a text names, by how it begins.
use Rattle.std.proofs.Common.{ℕ, List, ◌≡◌, ◌≤◌, ◌-◌, true, false, length, take, drop, nat_eq, codes}
use Rattle.std.proofs.lemmas.Bool.{le-ltb}
use Rattle.std.specs.List.{starts_with}
use Rattle.std.proofs.lemmas.List.{take_rest}
use Rattle.nm_types.specs.Names.{kind_of, pipe_kind}

-- the pipe's end, of the text behind `pipe`
pub kind_of-pipe : (text : List ℕ) → length text ≤ 16 → starts_with nat_eq text (codes "vale") ≡ false
    → starts_with nat_eq text (codes "pipe") ≡ true → kind_of text ≡ pipe_kind (take (length text - 4) (drop 4 text))
kind_of-pipe text short other pipe = rw (le-ltb 16 (length text) short, other, pipe, take_rest text 4)

pub ruleset pipe_names = (kind_of-pipe)
