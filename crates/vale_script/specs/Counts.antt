-- What the count of a script's lines reads.
use Rattle.std.specs.Prelude.{ℕ, Bool, not, ◌&&◌, ◌-◌, nat_lt, List, length, slice_index}
use Rattle.vale_script.specs.Grammar.{is_line_feed}

-- bytes stand behind the last line feed
abbrev pub is_open : List ℕ → Bool
is_open bytes = nat_lt 0 (length bytes) && not (is_line_feed (slice_index bytes (length bytes - 1)))
